-- A leg that may be called in sync holds the array at each block that no record of a write is of.
use Rattle.std.proofs.Common.{◌≡◌, ◌≢◌, ⊎_elim, inl, ℕ, ◌<◌, arith, Bool, true, false, IsTrue, List, [], ◌∷◌, Option, None, Some, refl, sym, ap, ◌∙◌, subst, slice_index_or}
use Rattle.nm_choice.specs.declared.leg_state.LegState.TheVariants as state
use Rattle.nm_fanout.specs.Records.{busy_on}
use Rattle.nm_leg.specs.Leg.{LegType}
use Rattle.nm_rules.specs.declared.at.At.{At}
use Rattle.nm_rules.specs.Invariant.{Keeps}
use Rattle.nm_rules.specs.RunClaim.{ClaimsRun}
use Rattle.nm_rules.specs.Runs.{EntryNames}
use Rattle.nm_rules.specs.Sound.{Holds}
use Rattle.nm_rules.specs.State.{StripeState, leg_state}
use Rattle.nm_rules.proofs.FlushedSyncLemmas.{in_sync-holds}
use Rattle.nm_rules.proofs.RecordLemmas.{busy_found, one_or_two}
use Rattle.nm_stripe.specs.declared.answer.Answer.{Answer}
use Rattle.nm_stripe.specs.declared.answer.Answer.TheVariants.{Joining, InSync, Written, Refused}
use Rattle.nm_stripe.specs.declared.step.Step.{Step}
use Rattle.nm_stripe.specs.declared.step.Step.TheVariants.{Begin, Push, Claim, Read, Fail, Attach, Return, Replace, Copy, Promote, Sync, Flush}
use Rattle.nm_stripe.specs.Run.{MayBeAsked, NoneHalted, StepOf}
use Rattle.nm_stripe.proofs.RunLemmas.{step-shape}
use Rattle.nm_stripe.proofs.StepLemmas.{step-keeps}
use Rattle.nm_gate.specs.Durable.{Durable, is_named}
use Rattle.nm_gate.specs.Gate.{Allows, IsSaved}
use Rattle.nm_gate.specs.Held.{NoneOn}
use Rattle.nm_gate.specs.Looking.{LooksAt}
use Rattle.nm_gate.specs.Moves.{Clears, Does, Gated, GatedRuns, Looks, Move, MoveOf, NoneStop, Saves, Unmarks}
use Rattle.nm_gate.specs.Saves.{Resaves}
use Rattle.nm_gate.specs.Survive.{AnsweredSurvive, NamedHold, Stands}
use Rattle.nm_gate.proofs.LegParts.{in_sync-joining}
use Rattle.nm_gate.proofs.LegsLeft.{LegsLeft, any, but}
use Rattle.nm_gate.proofs.Looked.{looked-free, looked-inside, looked-keeps, looked-left, looked-stands, looked-was_none}
use Rattle.nm_gate.proofs.StepsLeft.{free_of, other_of, step-left}
use Rattle.nm_gate.proofs.Guarded.{array-stays, named-other, promoted-in_sync, step-apart}
use Rattle.nm_gate.proofs.Untouched.{none-busy, step-none}

module _ {L : Type 0} (type : LegType L) (is_honest : IsTrue type.honest) where
  module _ (old new : StripeState L) (d : Durable) (s : Stands type old d) where
    -- no write is under way past the last block
    pub past-free : busy_on old.place.blocks old.records ≡ None
    past-free =
        (elim (busy_on old.place.blocks old.records) as (λ o. busy_on old.place.blocks old.records ≡ o → o ≡ None) [
          | None ↦ λ none. refl
          | Some r ↦ λ busy.
              let at = busy_found old.place.blocks old.records r s.keeps.records.in_order.ascending busy in
              absurd (omega (arith, s.keeps.records.inside r.ticket r at.0, at.1))
        ]) refl

    pub step-stands : (step : Step L) (answer : Answer L) → NoneHalted (answer ∷ []) → Allows d old step → MayBeAsked type.model old step → StepOf type step answer old new → Stands type new d
    step-stands step answer goes allowed asked is =
        let left = step-left type old new old.place.blocks is_honest past-free s.keeps step answer goes is in
        record {
          keeps = step-keeps type step answer old new s.keeps asked is;
          runs = left.stopped ∙ s.runs;
          apart = step-apart type old new d s old.place.blocks (free_of step old old.place.blocks) step answer allowed asked is left;
        }

    saved-stands : (saved : Durable) → Resaves old d saved → Stands type old saved
    saved-stands saved is = record {
      keeps = s.keeps;
      runs = s.runs;
      apart = λ j named joins. ⊎_elim (λ was. s.apart j was joins) (λ in_sync. in_sync-joining (sym in_sync ∙ joins)) (is.named j named);
    }

    cleared-is : (cleared : Durable) → Unmarks type.model old d cleared → (cleared.named ≡ d.named)
    cleared-is cleared u = ap (λ (x : Durable). x.named) u.after

    cleared-stands : (cleared : Durable) → Unmarks type.model old d cleared → Stands type old cleared
    cleared-stands cleared u = record {
      keeps = s.keeps;
      runs = s.runs;
      apart = λ j named. s.apart j (subst (λ (names : List Bool). slice_index_or names j false ≡ true) (cleared-is cleared u) named);
    }

  -- after a move that stops no stripe
  pub move-stands : (move : Move L) (moves : List (Move L)) (old new : Gated L) → Stands type old.stripe old.durable → MoveOf type move old new → NoneStop (move ∷ moves) → Stands type new.stripe new.durable
  move-stands (Does step answer) moves old new s is goes =
      subst (λ (n : Durable). Stands type new.stripe n) (sym is.durable) (step-stands old.stripe new.stripe old.durable s step answer goes.0 is.allowed is.asked is.does)
  move-stands (Looks leg block found) moves old new s is goes =
      subst (λ (n : Durable). Stands type new.stripe n) (sym is.1) (looked-stands type leg block found old.stripe new.stripe is.0 is_honest old.durable s)
  move-stands (Saves saved) moves old new s is goes =
      subst (λ (n : Durable). Stands type new.stripe n) (sym is.2) (subst (λ (x : StripeState L). Stands type x saved) (sym is.1) (saved-stands old.stripe old.stripe old.durable s saved is.0))
  move-stands (Clears cleared) moves old new s is goes =
      subst (λ (n : Durable). Stands type new.stripe n) (sym is.2) (subst (λ (x : StripeState L). Stands type x cleared) (sym is.1) (cleared-stands old.stripe old.stripe old.durable s cleared is.0))

  -- the others stop none either
  pub stop-later : (move : Move L) (moves : List (Move L)) → NoneStop (move ∷ moves) → NoneStop moves
  stop-later (Does step answer) moves goes = goes.1
  stop-later (Looks leg block found) moves goes = goes
  stop-later (Saves saved) moves goes = goes
  stop-later (Clears cleared) moves goes = goes

  module _ (old new : StripeState L) (d : Durable) (s : Stands type old d) (hold : NamedHold type old d) where
    -- a claim is done only while all legs that may be called in sync are
    claim-held : Keeps type new → (ticket : ℕ) (answer : EntryNames) → IsSaved d old → ClaimsRun old new ticket answer → NamedHold type new d
    claim-held keeps ticket answer saved c leg b named within none =
        let in_sync : leg_state leg new ≡ state.InSync = ap (λ (x : StripeState L). leg_state leg x) c.after ∙ (saved leg named).1 in
        in_sync-holds type new leg b keeps is_honest (ap (λ (x : StripeState L). x.stopped) c.after ∙ s.runs) within (none-busy b new.records none) in_sync

    stays-held : new ≡ old → NamedHold type new d
    stays-held is = subst (λ (x : StripeState L). NamedHold type x d) (sym is) hold

    module _ (keeps : Keeps type new) (b : ℕ) (inside : b < old.place.blocks) (within : b < new.place.blocks) (was_free : busy_on b old.records ≡ None) (is_free : busy_on b new.records ≡ None) (was_none : NoneOn b old.records) where
      other-held : (other free : ℕ → Type 0) → LegsLeft type b other free old new → (j : ℕ) → other j → is_named j d ≡ true → Holds type.model new j b
      other-held other free left j o named =
          left.contents j o (inl (s.apart j named)) ∙ hold j b named inside was_none
          ∙ sym (array-stays type old new d b is_honest s keeps inside within was_free is_free other free left)

      step-held : (free : ℕ → Type 0) (step : Step L) (answer : Answer L) → Allows d old step → MayBeAsked type.model old step → StepOf type step answer old new → LegsLeft type b (other_of step answer) free old new → (j : ℕ) → is_named j d ≡ true → Holds type.model new j b
      step-held free (Attach leg) (Joining blocks) allowed asked is left j named = other-held (but leg) free left j (named-other d leg j allowed.1 named) named
      step-held free (Return leg marks) (Joining blocks) allowed asked is left j named = other-held (but leg) free left j (named-other d leg j allowed.1 named) named
      step-held free (Replace leg part) (Joining blocks) allowed asked is left j named = other-held (but leg) free left j (named-other d leg j allowed.1 named) named
      step-held free (Promote leg) InSync allowed asked is left j named =
          ⊎_elim
          (λ e.
          let here : leg_state leg new ≡ state.InSync = promoted-in_sync type old new d s leg asked is in
          let in_sync : leg_state j new ≡ state.InSync = subst (λ (i : ℕ). leg_state i new ≡ state.InSync) (sym e) here in
          in_sync-holds type new j b keeps is_honest (left.stopped ∙ s.runs) within is_free in_sync)
          (λ ne. other-held (but leg) free left j ne named)
          (one_or_two j leg)
      step-held free step answer allowed asked is left j named = other-held any free left j tt named

    -- any step but a claim
    other-step : (step : Step L) (answer : Answer L) → ((ticket : ℕ) → step ≢ Claim ticket) → NoneHalted (answer ∷ []) → Allows d old step → MayBeAsked type.model old step → StepOf type step answer old new → NamedHold type new d
    other-step step answer other goes allowed asked is leg b named within none =
        let keeps = step-keeps type step answer old new s.keeps asked is in
        let was_none = step-none type old new b none step answer other goes is in
        let was_free = none-busy b old.records was_none in
        let inside : b < old.place.blocks = subst (λ (place : At). b < place.blocks) (step-shape type step answer old new is).place within in
        step-held keeps b inside within was_free (none-busy b new.records none) was_none (free_of step old b) step answer allowed asked is
        (step-left type old new b is_honest was_free s.keeps step answer goes is) leg named

    step-held_after : (step : Step L) (answer : Answer L) → NoneHalted (answer ∷ []) → Allows d old step → MayBeAsked type.model old step → StepOf type step answer old new → NamedHold type new d
    step-held_after (Claim ticket) (Written written) goes allowed asked is = claim-held (step-keeps type (Claim ticket) (Written written) old new s.keeps asked is) ticket written allowed.1 is
    step-held_after (Claim ticket) (Refused cause handed) goes allowed asked is = stays-held is.2
    step-held_after (Claim ticket) answer goes allowed asked is = absurd is
    step-held_after (Begin block bytes) answer goes allowed asked is = other-step (Begin block bytes) answer (λ t e. cc) goes allowed asked is
    step-held_after (Push ticket leg) answer goes allowed asked is = other-step (Push ticket leg) answer (λ t e. cc) goes allowed asked is
    step-held_after (Read block room) answer goes allowed asked is = other-step (Read block room) answer (λ t e. cc) goes allowed asked is
    step-held_after (Fail leg) answer goes allowed asked is = other-step (Fail leg) answer (λ t e. cc) goes allowed asked is
    step-held_after (Attach leg) answer goes allowed asked is = other-step (Attach leg) answer (λ t e. cc) goes allowed asked is
    step-held_after (Return leg marks) answer goes allowed asked is = other-step (Return leg marks) answer (λ t e. cc) goes allowed asked is
    step-held_after (Replace leg part) answer goes allowed asked is = other-step (Replace leg part) answer (λ t e. cc) goes allowed asked is
    step-held_after (Copy leg most from) answer goes allowed asked is = other-step (Copy leg most from) answer (λ t e. cc) goes allowed asked is
    step-held_after (Promote leg) answer goes allowed asked is = other-step (Promote leg) answer (λ t e. cc) goes allowed asked is
    step-held_after (Sync leg) answer goes allowed asked is = other-step (Sync leg) answer (λ t e. cc) goes allowed asked is
    step-held_after (Flush leg) answer goes allowed asked is = other-step (Flush leg) answer (λ t e. cc) goes allowed asked is

    looked-held : (leg block : ℕ) (found : Option (List ℕ)) → LooksAt type leg block found old new → NamedHold type new d
    looked-held leg block found is j b named within none =
        let was_none = looked-was_none type leg block found old new is b none in
        let was_free = none-busy b old.records was_none in
        other-held (looked-keeps type leg block found old new is s.keeps) b (looked-inside type leg block found old new is b within) within was_free (looked-free type leg block found old new is b was_free) was_none
        any any (looked-left type leg block found old new is is_honest b) j tt named

    saved-held : (saved : Durable) → Resaves old d saved → NamedHold type old saved
    saved-held saved is leg b named inside none =
        ⊎_elim
        (λ was. hold leg b was inside none)
        (λ in_sync. in_sync-holds type old leg b s.keeps is_honest s.runs inside (none-busy b old.records none) in_sync)
        (is.named leg named)

    cleared-held : (cleared : Durable) → Unmarks type.model old d cleared → NamedHold type old cleared
    cleared-held cleared u leg b named = hold leg b (subst (λ (names : List Bool). slice_index_or names leg false ≡ true) (cleared-is old new d s cleared u) named)

  move-held : (move : Move L) (moves : List (Move L)) (old new : Gated L) → Stands type old.stripe old.durable → NamedHold type old.stripe old.durable → MoveOf type move old new → NoneStop (move ∷ moves)
      → NamedHold type new.stripe new.durable
  move-held (Does step answer) moves old new s hold is goes =
      subst (λ (n : Durable). NamedHold type new.stripe n) (sym is.durable) (step-held_after old.stripe new.stripe old.durable s hold step answer goes.0 is.allowed is.asked is.does)
  move-held (Looks leg block found) moves old new s hold is goes =
      subst (λ (n : Durable). NamedHold type new.stripe n) (sym is.1) (looked-held old.stripe new.stripe old.durable s hold leg block found is.0)
  move-held (Saves saved) moves old new s hold is goes =
      subst (λ (n : Durable). NamedHold type new.stripe n) (sym is.2) (subst (λ (x : StripeState L). NamedHold type x saved) (sym is.1) (saved-held old.stripe old.stripe old.durable s hold saved is.0))
  move-held (Clears cleared) moves old new s hold is goes =
      subst (λ (n : Durable). NamedHold type new.stripe n) (sym is.2) (subst (λ (x : StripeState L). NamedHold type x cleared) (sym is.1) (cleared-held old.stripe old.stripe old.durable s hold cleared is.0))

  -- over all of the moves
  pub runs-held : (moves : List (Move L)) (old new : Gated L) → Stands type old.stripe old.durable → NamedHold type old.stripe old.durable → GatedRuns type moves old new → NoneStop moves → NamedHold type new.stripe new.durable
  runs-held [] old new s hold runs goes = subst (λ (n : Gated L). NamedHold type n.stripe n.durable) (sym runs) hold
  runs-held (move ∷ moves) old new s hold runs goes =
      runs-held moves runs.0 new (move-stands move moves old runs.0 s runs.1 goes) (move-held move moves old runs.0 s hold runs.1 goes) runs.2 (stop-later move moves goes)

-- what was answered is found again
pub answered-survive : {L : Type 0} (type : LegType L) → IsTrue type.honest → AnsweredSurvive type
answered-survive type is_honest moves old new s hold runs goes = runs-held type is_honest moves old new s hold runs goes
