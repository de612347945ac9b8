-- Each leg in sync stays listed: only a promotion calls a leg in sync.
use Rattle.std.proofs.Common.{◌≡◌, ⊎_elim, ℕ, Bool, true, false, IsTrue, List, [], ◌∷◌, sym, ap, subst, slice_index_or, slice_set}
use Rattle.nm_choice.specs.declared.leg_state.LegState.{LegState}
use Rattle.nm_choice.specs.declared.leg_state.LegState.TheVariants.{Out}
use Rattle.nm_choice.specs.declared.leg_state.LegState.TheVariants as state
use Rattle.nm_leg.specs.Leg.{LegType}
use Rattle.nm_rules.specs.State.{StripeState, leg_state}
use Rattle.nm_rules.proofs.RecordLemmas.{one_or_two}
use Rattle.nm_stripe.specs.declared.answer.Answer.{Answer}
use Rattle.nm_stripe.specs.declared.answer.Answer.TheVariants.{Joining, InSync}
use Rattle.nm_stripe.specs.declared.step.Step.{Step}
use Rattle.nm_stripe.specs.declared.step.Step.TheVariants.{Attach, Return, Replace, Promote}
use Rattle.nm_stripe.specs.Run.{NoneHalted, StepOf}
use Rattle.nm_gate.specs.Durable.{Durable, is_listed}
use Rattle.nm_gate.specs.Gate.{Allows}
use Rattle.nm_gate.specs.Moves.{Clears, Does, Gated, GatedRuns, Looks, Move, MoveOf, NoneStop, Saves, Unmarks}
use Rattle.nm_gate.specs.Saves.{AllListed}
use Rattle.nm_gate.specs.Survive.{ListedStay, Stands}
use Rattle.nm_gate.proofs.Acknowledged.{move-stands, past-free, stop-later}
use Rattle.nm_gate.proofs.Guarded.{joins-not}
use Rattle.nm_gate.proofs.Looked.{looked-left}
use Rattle.nm_gate.proofs.LegsLeft.{LegsLeft, any, but}
use Rattle.nm_gate.proofs.StepsLeft.{free_of, other_of, step-left}

module _ {L : Type 0} (type : LegType L) (is_honest : IsTrue type.honest) where
  module _ (old new : StripeState L) (d : Durable) (s : Stands type old d) (all : AllListed old d) where
    other-listed : (b : ℕ) (other free : ℕ → Type 0) → LegsLeft type b other free old new → (j : ℕ) → other j → leg_state j new ≡ state.InSync → is_listed j d ≡ true
    other-listed b other free left j o in_sync = all j (left.in_sync j o in_sync)

    -- a leg that joins is not in sync
    joined-not : (leg j : ℕ) → new.states ≡ slice_set old.states leg state.Joining → j ≡ leg → leg_state j new ≡ state.InSync → ⊥
    joined-not leg j states e in_sync =
        joins-not old.states leg (subst (λ (i : ℕ). slice_index_or (slice_set old.states leg state.Joining) i Out ≡ state.InSync) e (subst (λ (xs : List LegState). slice_index_or xs j Out ≡ state.InSync) states in_sync))

    step-listed : (b : ℕ) (free : ℕ → Type 0) (step : Step L) (answer : Answer L) → Allows d old step → StepOf type step answer old new → LegsLeft type b (other_of step answer) free old new → AllListed new d
    step-listed b free (Attach leg) (Joining blocks) allowed is left j in_sync =
        ⊎_elim (λ e. absurd (joined-not leg j (ap (λ (x : StripeState L). x.states) is.0.after) e in_sync)) (λ ne. other-listed b (but leg) free left j ne in_sync) (one_or_two j leg)
    step-listed b free (Return leg marks) (Joining blocks) allowed is left j in_sync =
        ⊎_elim (λ e. absurd (joined-not leg j (ap (λ (x : StripeState L). x.states) is.0.after) e in_sync)) (λ ne. other-listed b (but leg) free left j ne in_sync) (one_or_two j leg)
    step-listed b free (Replace leg part) (Joining blocks) allowed is left j in_sync =
        ⊎_elim (λ e. absurd (joined-not leg j (ap (λ (x : StripeState L). x.states) is.0.after) e in_sync)) (λ ne. other-listed b (but leg) free left j ne in_sync) (one_or_two j leg)
    step-listed b free (Promote leg) InSync allowed is left j in_sync =
        ⊎_elim (λ e. subst (λ (i : ℕ). is_listed i d ≡ true) (sym e) allowed.1) (λ ne. other-listed b (but leg) free left j ne in_sync) (one_or_two j leg)
    step-listed b free step answer allowed is left j in_sync = other-listed b any free left j tt in_sync

    done-listed : (step : Step L) (answer : Answer L) → NoneHalted (answer ∷ []) → Allows d old step → StepOf type step answer old new → AllListed new d
    done-listed step answer goes allowed is =
        let b : ℕ = old.place.blocks in
        step-listed b (free_of step old b) step answer allowed is (step-left type old new b is_honest (past-free type is_honest old new d s) s.keeps step answer goes is)

    cleared-listed : (cleared : Durable) → Unmarks type.model old d cleared → AllListed old cleared
    cleared-listed cleared u leg in_sync =
        let same : cleared.listed ≡ d.listed = ap (λ (x : Durable). x.listed) u.after in
        subst (λ (xs : List Bool). slice_index_or xs leg false ≡ true) (sym same) (all leg in_sync)

  move-listed : (move : Move L) (moves : List (Move L)) (old new : Gated L) → Stands type old.stripe old.durable → AllListed old.stripe old.durable → MoveOf type move old new → NoneStop (move ∷ moves) → AllListed new.stripe new.durable
  move-listed (Does step answer) moves old new s all is goes =
      subst (λ (n : Durable). AllListed new.stripe n) (sym is.durable) (done-listed old.stripe new.stripe old.durable s all step answer goes.0 is.allowed is.does)
  move-listed (Looks leg block found) moves old new s all is goes =
      subst (λ (n : Durable). AllListed new.stripe n) (sym is.1)
      (λ j in_sync. other-listed old.stripe new.stripe old.durable s all 0 any any (looked-left type leg block found old.stripe new.stripe is.0 is_honest 0) j tt in_sync)
  move-listed (Saves saved) moves old new s all is goes =
      subst (λ (n : Durable). AllListed new.stripe n) (sym is.2) (subst (λ (x : StripeState L). AllListed x saved) (sym is.1) (λ leg in_sync. is.0.listed leg in_sync (all leg in_sync)))
  move-listed (Clears cleared) moves old new s all is goes =
      subst (λ (n : Durable). AllListed new.stripe n) (sym is.2) (subst (λ (x : StripeState L). AllListed x cleared) (sym is.1) (cleared-listed old.stripe old.stripe old.durable s all cleared is.0))

  runs-listed : (moves : List (Move L)) (old new : Gated L) → Stands type old.stripe old.durable → AllListed old.stripe old.durable → GatedRuns type moves old new → NoneStop moves → AllListed new.stripe new.durable
  runs-listed [] old new s all runs goes = subst (λ (n : Gated L). AllListed n.stripe n.durable) (sym runs) all
  runs-listed (move ∷ moves) old new s all runs goes =
      runs-listed moves runs.0 new (move-stands type is_honest move moves old runs.0 s runs.1 goes) (move-listed move moves old runs.0 s all runs.1 goes) runs.2 (stop-later type is_honest move moves goes)

pub listed-stay : {L : Type 0} (type : LegType L) → IsTrue type.honest → ListedStay type
listed-stay type is_honest moves old new s all runs goes = runs-listed type is_honest moves old new s all runs goes
