-- Moves one after the other: what was flushed stays on each leg that may be called in sync.
use Rattle.std.proofs.Common.{◌≡◌, ⊎_elim, inl, inr, ℕ, ◌<◌, length, Bool, true, false, IsTrue, List, [], ◌∷◌, Option, None, Some, refl, sym, ap, ◌∙◌, subst, slice_get, slice_index_or}
use Rattle.nm_choice.specs.declared.leg_state.LegState.{LegState}
use Rattle.nm_choice.specs.declared.leg_state.LegState.TheVariants.{Out}
use Rattle.nm_choice.specs.declared.leg_state.LegState.TheVariants as state
use Rattle.nm_fanout.specs.Records.{busy_on}
use Rattle.nm_leg.specs.Leg.{LegType}
use Rattle.nm_rules.specs.declared.refusal.Refusal.TheVariants.{AlreadyOut, Fault, Stopped}
use Rattle.nm_rules.specs.Array.{contents_of, stripe_array}
use Rattle.nm_rules.specs.Cause.{first_cause, when}
use Rattle.nm_rules.specs.Invariant.{Keeps}
use Rattle.nm_rules.specs.State.{StripeState, is_out, leg_state}
use Rattle.nm_stripe.specs.declared.answer.Answer.{Answer}
use Rattle.nm_stripe.specs.declared.answer.Answer.TheVariants.{Synced, Refused}
use Rattle.nm_stripe.specs.declared.step.Step.{Step}
use Rattle.nm_stripe.specs.declared.step.Step.TheVariants.{Flush, Sync}
use Rattle.nm_stripe.specs.Run.{MayBeAsked, StepOf}
use Rattle.nm_stripe.specs.Sync.{RefusesSync, ForCause as SyncCause, ForFault as SyncFault}
use Rattle.nm_stripe.proofs.FlushLemmas.{step-durable}
use Rattle.nm_stripe.proofs.RunLemmas.{step-shape}
use Rattle.nm_stripe.proofs.StepLemmas.{step-keeps}
use Rattle.nm_gate.specs.Durable.{Durable, is_named}
use Rattle.nm_gate.specs.Gate.{Allows, IsSaved}
use Rattle.nm_gate.specs.Looking.{LooksAt}
use Rattle.nm_gate.specs.Moves.{AllLeave, Clears, Does, Gated, GatedRuns, Leaves, Looks, Move, MoveOf, Saves, SomeSyncs, SyncsOne, Unmarks}
use Rattle.nm_gate.specs.Saves.{Resaves}
use Rattle.nm_gate.specs.Survive.{FlushedSurvive, Stands}
use Rattle.nm_gate.proofs.LegParts.{in_sync-joining}
use Rattle.nm_gate.proofs.LegsLeft.{LegsLeft, any}
use Rattle.nm_gate.proofs.StepsLeft.{free_of, other_of, step-left}
use Rattle.nm_gate.proofs.Looked.{looked-count, looked-free, looked-keeps, looked-left, looked-stands, looked-within}
use Rattle.nm_gate.proofs.Guarded.{Guards, array-stays, guards-other, out-guards, step-apart, step-array, step-guards, synced-guards}

-- a sync that is refused as AlreadyOut is of a leg that is out
out-bits : (stopped out : Bool) → first_cause (when stopped Stopped ∷ when out AlreadyOut ∷ []) ≡ Some AlreadyOut → out ≡ true
out-bits true out is = cc
out-bits false true is = refl
out-bits false false is = cc

out-state : (st : LegState) → is_out st ≡ true → st ≡ Out
out-state state.InSync is = cc
out-state state.Joining is = cc
out-state Out is = refl

-- what is known after a move
pub record Behind {L : Type 0} (type : LegType L) (b : ℕ) (old : StripeState L) (d : Durable) (new : StripeState L) (next : Durable) : Type 0 where
  pub stands : Stands type new next
  pub inside : b < new.place.blocks
  pub free : busy_on b new.records ≡ None
  pub count : length new.legs ≡ length old.legs
  pub array : slice_get (stripe_array type.model new) b ≡ slice_get (stripe_array type.model old) b
  pub guards : (j : ℕ) → Guards type old d j b → Guards type new next j b

module _ {L : Type 0} (type : LegType L) (b : ℕ) (is_honest : IsTrue type.honest) where
  module _ (old new : StripeState L) (d : Durable) (s : Stands type old d) (inside : b < old.place.blocks) (free : busy_on b old.records ≡ None) where
    saved-behind : (saved : Durable) → Resaves old d saved → Behind type b old d old saved
    saved-behind saved is = record {
      stands = record {
        keeps = s.keeps;
        runs = s.runs;
        apart = λ j named joins. ⊎_elim (λ was. s.apart j was joins) (λ in_sync. in_sync-joining (sym in_sync ∙ joins)) (is.named j named);
      };
      inside = inside;
      free = free;
      count = refl;
      array = refl;
      guards = λ j guards counts. guards (⊎_elim (λ named. is.named j named) (λ in_sync. inr in_sync) counts);
    }

    cleared-behind : (cleared : Durable) → Unmarks type.model old d cleared → Behind type b old d old cleared
    cleared-behind cleared u =
        let names : cleared.named ≡ d.named = ap (λ (x : Durable). x.named) u.after in
        let was : (j : ℕ) → is_named j cleared ≡ true → is_named j d ≡ true = λ j named. subst (λ (xs : List Bool). slice_index_or xs j false ≡ true) names named in
        record {
          stands = record { keeps = s.keeps; runs = s.runs; apart = λ j named. s.apart j (was j named) };
          inside = inside;
          free = free;
          count = refl;
          array = refl;
          guards = λ j guards counts. guards (⊎_elim (λ named. inl (was j named)) (λ in_sync. inr in_sync) counts);
        }

    looked-behind : (leg block : ℕ) (found : Option (List ℕ)) → LooksAt type leg block found old new → Behind type b old d new d
    looked-behind leg block found is =
        let k = looked-keeps type leg block found old new is s.keeps in
        let within = looked-within type leg block found old new is b inside in
        let is_free = looked-free type leg block found old new is b free in
        let left = looked-left type leg block found old new is is_honest b in
        record {
          stands = looked-stands type leg block found old new is is_honest d s;
          inside = within;
          free = is_free;
          count = looked-count type leg block found old new is;
          array = array-stays type old new d b is_honest s k inside within free is_free any any left;
          guards = λ j guards. guards-other type old new d b is_honest s k inside within free is_free any any left j tt guards;
        }

    module _ (step : Step L) (answer : Answer L) (allowed : Allows d old step) (asked : MayBeAsked type.model old step) (is : StepOf type step answer old new) (leaves : Leaves b (Does step answer)) where
      keeps : Keeps type new
      keeps = step-keeps type step answer old new s.keeps asked is

      within : b < new.place.blocks
      within = rw (step-shape type step answer old new is).place inside

      is_free : busy_on b new.records ≡ None
      is_free = (step-durable type old new b free s.keeps keeps is_honest inside step answer leaves.0 is).free

      left : LegsLeft type b (other_of step answer) (free_of step old b) old new
      left = step-left type old new b is_honest free s.keeps step answer leaves.1 is

      step-behind : Behind type b old d new d
      step-behind = record {
        stands = record {
          keeps = keeps;
          runs = left.stopped ∙ s.runs;
          apart = step-apart type old new d s b (free_of step old b) step answer allowed asked is left;
        };
        inside = within;
        free = is_free;
        count = (step-shape type step answer old new is).legs;
        array = step-array type old new d b is_honest s keeps inside within free is_free (free_of step old b) step answer left;
        guards = step-guards type old new d b is_honest s keeps inside within free is_free (free_of step old b) step answer allowed asked is left;
      }

  behind : (move : Move L) (old new : Gated L) → Stands type old.stripe old.durable → b < old.stripe.place.blocks → busy_on b old.stripe.records ≡ None → Leaves b move → MoveOf type move old new
      → Behind type b old.stripe old.durable new.stripe new.durable
  behind (Does step answer) old new s inside free leaves is =
      subst (λ (n : Durable). Behind type b old.stripe old.durable new.stripe n) (sym is.durable)
      (step-behind old.stripe new.stripe old.durable s inside free step answer is.allowed is.asked is.does leaves)
  behind (Looks leg block found) old new s inside free leaves is =
      subst (λ (n : Durable). Behind type b old.stripe old.durable new.stripe n) (sym is.1)
      (looked-behind old.stripe new.stripe old.durable s inside free leg block found is.0)
  behind (Saves saved) old new s inside free leaves is =
      subst (λ (n : Durable). Behind type b old.stripe old.durable new.stripe n) (sym is.2)
      (subst (λ (x : StripeState L). Behind type b old.stripe old.durable x saved) (sym is.1) (saved-behind old.stripe new.stripe old.durable s inside free saved is.0))
  behind (Clears cleared) old new s inside free leaves is =
      subst (λ (n : Durable). Behind type b old.stripe old.durable new.stripe n) (sym is.2)
      (subst (λ (x : StripeState L). Behind type b old.stripe old.durable x cleared) (sym is.1) (cleared-behind old.stripe new.stripe old.durable s inside free cleared is.0))

  -- a sync in the move makes what the leg holds durable, where it counts
  refused-guards : (free_after : ℕ → Type 0) (leg : ℕ) (old new : StripeState L) (d : Durable) (s : Stands type old d) (inside : b < old.place.blocks) (free : busy_on b old.records ≡ None)
      (on : Behind type b old d new d) → LegsLeft type b any free_after old new → IsSaved d old → RefusesSync type old new leg AlreadyOut → Guards type new d leg b
  refused-guards free_after leg old new d s inside free on left saved (SyncCause cause is) =
      let out : leg_state leg old ≡ Out = out-state (leg_state leg old) (out-bits old.stopped (is_out (leg_state leg old)) cause) in
      out-guards type old new d b is_honest s on.stands.keeps inside on.inside free on.free free_after leg saved left out
  refused-guards free_after leg old new d s inside free on left saved (SyncFault is fails) = absurd (let clash : AlreadyOut ≡ Fault = is in cc)

  step-makes : (step : Step L) (answer : Answer L) (j : ℕ) (old new : StripeState L) (d : Durable) → Stands type old d → b < old.place.blocks → busy_on b old.records ≡ None → Leaves b (Does step answer)
      → SyncsOne j (Does step answer) → Allows d old step → MayBeAsked type.model old step → StepOf type step answer old new → Guards type new d j b
  step-makes (Sync leg) Synced j old new d s inside free leaves synced allowed asked is =
      let on = step-behind old new d s inside free (Sync leg) Synced allowed asked is leaves in
      let left = step-left type old new b is_honest free s.keeps (Sync leg) Synced leaves.1 is in
      subst (λ (i : ℕ). Guards type new d i b) synced (synced-guards type old new d b is_honest s on.stands.keeps inside on.inside free on.free (free_of (Sync leg) old b) leg allowed.1 left is)
  step-makes (Sync leg) (Refused AlreadyOut handed) j old new d s inside free leaves synced allowed asked is =
      let on = step-behind old new d s inside free (Sync leg) (Refused AlreadyOut handed) allowed asked is leaves in
      let left = step-left type old new b is_honest free s.keeps (Sync leg) (Refused AlreadyOut handed) leaves.1 is in
      subst (λ (i : ℕ). Guards type new d i b) synced (refused-guards (free_of (Sync leg) old b) leg old new d s inside free on left allowed.1 is.0)
  step-makes (Flush leg) Synced j old new d s inside free leaves synced allowed asked is =
      let on = step-behind old new d s inside free (Flush leg) Synced allowed asked is leaves in
      let left = step-left type old new b is_honest free s.keeps (Flush leg) Synced leaves.1 is in
      subst (λ (i : ℕ). Guards type new d i b) synced (synced-guards type old new d b is_honest s on.stands.keeps inside on.inside free on.free (free_of (Flush leg) old b) leg allowed.1 left is)
  step-makes (Flush leg) (Refused AlreadyOut handed) j old new d s inside free leaves synced allowed asked is =
      let on = step-behind old new d s inside free (Flush leg) (Refused AlreadyOut handed) allowed asked is leaves in
      let left = step-left type old new b is_honest free s.keeps (Flush leg) (Refused AlreadyOut handed) leaves.1 is in
      subst (λ (i : ℕ). Guards type new d i b) synced (refused-guards (free_of (Flush leg) old b) leg old new d s inside free on left allowed.1 is.0)
  step-makes step answer j old new d s inside free leaves synced allowed asked is = absurd synced

  move-makes : (move : Move L) (j : ℕ) (old new : Gated L) → Stands type old.stripe old.durable → b < old.stripe.place.blocks → busy_on b old.stripe.records ≡ None → Leaves b move → SyncsOne j move → MoveOf type move old new
      → Guards type new.stripe new.durable j b
  move-makes (Does step answer) j old new s inside free leaves synced is =
      subst (λ (n : Durable). Guards type new.stripe n j b) (sym is.durable) (step-makes step answer j old.stripe new.stripe old.durable s inside free leaves synced is.allowed is.asked is.does)
  move-makes (Looks leg block found) j old new s inside free leaves synced is = absurd synced
  move-makes (Saves saved) j old new s inside free leaves synced is = absurd synced
  move-makes (Clears cleared) j old new s inside free leaves synced is = absurd synced

  -- over all of the moves
  pub runs-behind : (moves : List (Move L)) (old new : Gated L) → Stands type old.stripe old.durable → b < old.stripe.place.blocks → busy_on b old.stripe.records ≡ None → AllLeave b moves → GatedRuns type moves old new
      → Behind type b old.stripe old.durable new.stripe new.durable
  runs-behind [] old new s inside free leaves runs =
      subst (λ (n : Gated L). Behind type b old.stripe old.durable n.stripe n.durable) (sym runs)
      (record { stands = s; inside = inside; free = free; count = refl; array = refl; guards = λ j guards. guards })
  runs-behind (move ∷ moves) old new s inside free leaves runs =
      let one = behind move old runs.0 s inside free leaves.0 runs.1 in
      let more = runs-behind moves runs.0 new one.stands one.inside one.free leaves.1 runs.2 in
      record {
        stands = more.stands;
        inside = more.inside;
        free = more.free;
        count = more.count ∙ one.count;
        array = more.array ∙ one.array;
        guards = λ j guards. more.guards j (one.guards j guards);
      }

  pub runs-make : (moves : List (Move L)) (j : ℕ) (old new : Gated L) → Stands type old.stripe old.durable → b < old.stripe.place.blocks → busy_on b old.stripe.records ≡ None → AllLeave b moves → SomeSyncs j moves → GatedRuns type moves old new
      → Guards type new.stripe new.durable j b
  runs-make [] j old new s inside free leaves synced runs = absurd synced
  runs-make (move ∷ moves) j old new s inside free leaves synced runs =
      let one = behind move old runs.0 s inside free leaves.0 runs.1 in
      ⊎_elim
      (λ now. (runs-behind moves runs.0 new one.stands one.inside one.free leaves.1 runs.2).guards j (move-makes move j old runs.0 s inside free leaves.0 now runs.1))
      (λ later. runs-make moves j runs.0 new one.stands one.inside one.free leaves.1 later runs.2)
      synced

-- what was flushed is found again
pub flushed-survive : {L : Type 0} (type : LegType L) → IsTrue type.honest → FlushedSurvive type
flushed-survive type is_honest moves later old mid new b leg legs s inside free runs leaves flush more leaves_more there named crash =
    let first = runs-behind type b is_honest moves old mid s inside free leaves runs in
    let last = runs-behind type b is_honest later mid new first.stands first.inside first.free leaves_more more in
    let made = runs-make type b is_honest moves leg old mid s inside free leaves (flush leg there) runs in
    let held = last.guards leg made (inl named) in
    let contents : slice_get (contents_of type.model new.stripe.legs leg) b ≡ slice_get (stripe_array type.model mid.stripe) b = held.holds ∙ last.array in
    ⊎_elim
    (λ durable. durable ∙ held.durable ∙ contents)
    (λ kept. kept ∙ contents)
    crash
