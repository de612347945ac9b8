-- How moves are told once they are made: of the room of a read its length alone matters.
use Rattle.std.proofs.Common.{◌≡◌, ℕ, ◌*◌, ◌/◌, Bool, true, false, List, Option, None, Some, IsSome, Result, Ok, Err, length, refl, sym, ap, ◌∙◌, subst}
use Rattle.nm_leg.specs.Leg.{LegType}
use Rattle.nm_rules.specs.declared.refusal.Refusal.{Refusal}
use Rattle.nm_rules.specs.Reopening.{Marks}
use Rattle.nm_rules.specs.RunRead.{read_run_cause}
use Rattle.nm_rules.specs.Runs.{FitsRun}
use Rattle.nm_rules.specs.State.{StripeState}
use Rattle.nm_stripe.specs.declared.answer.Answer.{Answer}
use Rattle.nm_stripe.specs.declared.answer.Answer.TheVariants.{LegLost, Refused, Value}
use Rattle.nm_stripe.specs.declared.answer.Handed.{Handed}
use Rattle.nm_stripe.specs.declared.answer.Handed.TheVariants.{Room}
use Rattle.nm_stripe.specs.declared.step.Step.TheVariants.{Attach, Read, Return}
use Rattle.nm_stripe.specs.Read.{RefusesRead, ForCause, ForFault}
use Rattle.nm_stripe.specs.Run.{MayBeAsked, StepOf}
use Rattle.nm_gate.specs.declared.gated_stripe.GatedStripe.{GatedStripe}
use Rattle.nm_gate.specs.Changes.{Resaved}
use Rattle.nm_gate.specs.Gate.{IsAllowed}
use Rattle.nm_gate.specs.Durable.{Durable}
use Rattle.nm_gate.specs.Returning.{suspects}
use Rattle.nm_gate.specs.Saves.{Resaves}
use Rattle.nm_history.specs.declared.transition.Move.TheVariants.{Looks, Saves}
use Rattle.nm_history.specs.Lost.{none_lost}
use Rattle.nm_history.specs.Moves.{Changes, DoesStep, MoveOf}
use Rattle.nm_history.specs.Telling.{LookedAt, MovesAreTold, ReturnsBehind, answer_of_return, found_if, room_back}

-- the bytes of a room that comes back
abbrev bytes_in : {L : Type 0} → List ℕ → Handed L → List ℕ
bytes_in room (Room bytes) = bytes
bytes_in room handed = room

-- a read passes every gate
read-allowed : {L : Type 0} (durable : Option Durable) (stripe : StripeState L) (block : ℕ) (room : List ℕ) → IsAllowed durable stripe (Read block room)
read-allowed None stripe block room = tt
read-allowed (Some d) stripe block room = tt

module _ {L : Type 0} (type : LegType L) (block : ℕ) (room bytes : List ℕ) (old new : StripeState L) (long : length bytes ≡ length room) where
  asked-as : MayBeAsked type.model old (Read block room) → MayBeAsked type.model old (Read block bytes)
  asked-as asked = subst (λ (n : ℕ). FitsRun old.place block (n / 512) × (n ≡ 512 * (n / 512))) (sym long) asked

  refused-as : (refusal : Refusal) → RefusesRead type old new block room bytes refusal → RefusesRead type old new block bytes bytes refusal
  refused-as refusal (ForCause cause same stays) = ForCause (ap (λ (n : ℕ). read_run_cause old (n / 512)) long ∙ cause) same refl
  refused-as refusal (ForFault is fails) = ForFault is fails

module _ {L : Type 0} (type : LegType L) (block : ℕ) (room : List ℕ) (old new : GatedStripe L) where
  told : (bytes : List ℕ) (answer : Answer L) → length bytes ≡ length room → StepOf type (Read block bytes) answer old.stripe new.stripe → DoesStep type (Read block room) answer old new → DoesStep type (Read block bytes) answer old new
  told bytes answer long is does = record {
    allowed = read-allowed {L = L} old.durable old.stripe block bytes;
    marked = tt;
    asked = asked-as type block room bytes old.stripe new.stripe long does.asked;
    does = is;
    durable = does.durable;
  }

  told-as : (answer : Answer L) → DoesStep type (Read block room) answer old new → DoesStep type (Read block (room_back room answer)) answer old new
  told-as (Value value) does = told value.bytes (Value value) does.does.1 (does.does.0, refl) does
  told-as (LegLost gone (Room bytes)) does =
      let is = does.does in
      let same : bytes ≡ is.0 = ap (λ (h : Handed L). bytes_in room h) is.2.0 in
      told bytes (LegLost gone (Room bytes)) (ap (λ (xs : List ℕ). length xs) same ∙ is.2.1) (is.0, is.1, (is.2.0, ap (λ (xs : List ℕ). length xs) (sym same))) does
  told-as (Refused refusal (Room bytes)) does =
      let is = does.does in
      let same : bytes ≡ is.0 = ap (λ (h : Handed L). bytes_in room h) is.2.0 in
      let long : length bytes ≡ length room = ap (λ (xs : List ℕ). length xs) same ∙ is.2.1 in
      told bytes (Refused refusal (Room bytes)) long
      (bytes, refused-as type block room bytes old.stripe new.stripe long refusal (subst (λ (xs : List ℕ). RefusesRead type old.stripe new.stripe block room xs refusal) (sym same) is.1), (refl, refl))
      does
  told-as answer does = does

-- what may attach may return
return-allowed : {L : Type 0} (durable : Option Durable) (stripe : StripeState L) (leg : ℕ) (marks : Marks) → IsAllowed durable stripe (Attach leg) → IsAllowed durable stripe (Return leg marks)
return-allowed None stripe leg marks allowed = tt
return-allowed (Some d) stripe leg marks allowed = allowed

module _ {L : Type 0} (type : LegType L) where
  returns-told : (leg : ℕ) (result : Result ℕ Refusal) (old new : GatedStripe L) → ReturnsBehind type leg result old new → DoesStep type (Return leg (suspects leg old.durable)) (answer_of_return result) old new
  returns-told leg (Ok blocks) old new r = record {
    allowed = return-allowed {L = L} old.durable old.stripe leg (suspects leg old.durable) r.allowed;
    marked = refl;
    asked = (r.there, r.span);
    does = (r.ok, r.left);
    durable = r.durable;
  }
  returns-told leg (Err refusal) old new r = record {
    allowed = return-allowed {L = L} old.durable old.stripe leg (suspects leg old.durable) r.allowed;
    marked = refl;
    asked = (r.there, r.span);
    does = (r.cause, refl, r.stays);
    durable = r.durable;
  }

  looks-told : (leg block : ℕ) (went : Bool) (bytes : List ℕ) (old new : GatedStripe L) → LookedAt type leg block went bytes old.stripe new.stripe → new.durable ≡ old.durable → MoveOf type none_lost (Looks leg block (found_if went bytes)) old new
  looks-told leg block true bytes old new is durable = (record { in_sync = is.in_sync; reads = is.reads; after = is.others }, durable)
  looks-told leg block false bytes old new is durable = (
    record {
      in_sync = is.in_sync;
      reads = record {
        before = is.reads.before;
        after = is.reads.after;
        change = is.reads.change;
        reads = record { calls = is.reads.reads.calls; found = λ is_honest done. tt; contents = is.reads.reads.contents; durable = is.reads.reads.durable };
      };
      after = is.others;
    },
    durable,
  )

  saves-told : (old new : GatedStripe L) → new.stripe ≡ old.stripe → IsSome old.durable → Resaved old.stripe old.durable new.durable → MoveOf type none_lost Saves old new
  saves-told old new same has is = record { stripe = same; durable = changes old.stripe old.durable new.durable has is }
    where
      changes : (stripe : StripeState L) (o p : Option Durable) → IsSome o → Resaved stripe o p → Changes (Resaves stripe) o p
      changes stripe None None has is = cc
      changes stripe None (Some e) has is = absurd is
      changes stripe (Some d) None has is = absurd is
      changes stripe (Some d) (Some e) has is = is

  pub moves-told : MovesAreTold type
  moves-told = record {
    reads = λ block room answer old new does. told-as type block room old new answer does;
    returns = returns-told;
    looks = looks-told;
    saves = saves-told;
  }
