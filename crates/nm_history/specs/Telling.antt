-- How a move is told once it is made, by what is in hand then.
use Rattle.std.specs.Prelude.{◌≡◌, ℕ, ◌<◌, Bool, true, false, List, length, Option, None, Some}
use Rattle.std.specs.Prelude.{IsSome, Result, Ok, Err, IfOk, IfErr, OnOk, OnErr}
use Rattle.nm_choice.specs.declared.leg_state.LegState.TheVariants.{InSync}
use Rattle.nm_leg.specs.Leg.{LegType, blocks_of}
use Rattle.nm_rules.specs.Attach.{Returns, attach_cause}
use Rattle.nm_rules.specs.RunCalls.{ReadsRunAt}
use Rattle.nm_rules.specs.State.{StripeState, left, leg_state}
use Rattle.nm_rules.specs.declared.refusal.Refusal.{Refusal}
use Rattle.nm_stripe.specs.declared.answer.Answer.{Answer}
use Rattle.nm_stripe.specs.declared.answer.Answer.TheVariants.{Joining, LegLost, Refused, Value}
use Rattle.nm_stripe.specs.declared.answer.Handed.TheVariants.{Nothing, Room}
use Rattle.nm_stripe.specs.declared.step.Step.TheVariants.{Attach, Read, Return}
use Rattle.nm_gate.specs.declared.gated_stripe.GatedStripe.{GatedStripe}
use Rattle.nm_gate.specs.Changes.{Resaved}
use Rattle.nm_gate.specs.Gate.{IsAllowed}
use Rattle.nm_gate.specs.Returning.{suspects}
use Rattle.nm_history.specs.declared.transition.Move.TheVariants.{Looks, Saves}
use Rattle.nm_history.specs.Lost.{none_lost}
use Rattle.nm_history.specs.Moves.{DoesStep, MoveOf}

-- the room of a read as it comes back with the answer
abbrev pub room_back : {L : Type 0} → List ℕ → Answer L → List ℕ
room_back room (Value value) = value.bytes
room_back room (LegLost gone (Room bytes)) = bytes
room_back room (Refused refusal (Room bytes)) = bytes
room_back room answer = room

-- the answer of a return
abbrev pub answer_of_return : {L : Type 0} → Result ℕ Refusal → Answer L
answer_of_return (Ok blocks) = Joining blocks
answer_of_return (Err refusal) = Refused refusal Nothing

-- a leg returned behind the gate, as `GatedStripe::return_leg` ensures it
pub record ReturnsBehind {L : Type 0} (type : LegType L) (leg : ℕ) (result : Result ℕ Refusal)
    (old new : GatedStripe L) : Type 0 where
  pub allowed : IsAllowed old.durable old.stripe (Attach leg)
  pub there : leg < length old.stripe.legs
  pub span : 0 < (suspects leg old.durable).span
  pub ok : OnOk result (Returns type.model old.stripe new.stripe leg (suspects leg old.durable))
  pub left : IfOk result (λ blocks. blocks ≡ left leg new.stripe)
  pub cause : IfErr result (λ refusal. attach_cause old.stripe leg ≡ Some refusal)
  pub stays : OnErr result (new.stripe ≡ old.stripe)
  pub durable : new.durable ≡ old.durable

-- what a look found, if it went well
abbrev pub found_if : Bool → List ℕ → Option (List ℕ)
found_if true bytes = Some bytes
found_if false bytes = None

-- a leg was looked at, as `Stripe::look` ensures it
pub record LookedAt {L : Type 0} (type : LegType L) (leg block : ℕ) (went : Bool) (bytes : List ℕ)
    (old new : StripeState L) : Type 0 where
  pub in_sync : leg_state leg old ≡ InSync
  pub reads : ReadsRunAt type went leg block (blocks_of bytes) old.legs new.legs
  pub others : new ≡ record old { legs = new.legs }

-- A read may be told with the room that came back, since what was in it before shows in nothing; a
-- return with the marks that the gate gave; a look with what it found; and a save with nothing.
pub record MovesAreTold {L : Type 0} (type : LegType L) : Type 0 where
  pub reads : (block : ℕ) (room : List ℕ) (answer : Answer L) (old new : GatedStripe L)
      → DoesStep type (Read block room) answer old new
      → DoesStep type (Read block (room_back room answer)) answer old new
  pub returns : (leg : ℕ) (result : Result ℕ Refusal) (old new : GatedStripe L)
      → ReturnsBehind type leg result old new
      → DoesStep type (Return leg (suspects leg old.durable)) (answer_of_return result) old new
  pub looks : (leg block : ℕ) (went : Bool) (bytes : List ℕ) (old new : GatedStripe L)
      → LookedAt type leg block went bytes old.stripe new.stripe → new.durable ≡ old.durable
      → MoveOf type none_lost (Looks leg block (found_if went bytes)) old new
  pub saves : (old new : GatedStripe L) → new.stripe ≡ old.stripe → IsSome old.durable
      → Resaved old.stripe old.durable new.durable → MoveOf type none_lost Saves old new
