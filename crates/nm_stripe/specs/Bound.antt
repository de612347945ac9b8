-- How long the copy to a joining leg takes, and what holds once nothing is left to copy.
use Rattle.std.specs.Prelude.{◌≡◌, ◌≢◌, ◌⊎◌, ℕ, ◌+◌, ◌*◌, ◌≤◌, ◌==◌, false, None}
use Rattle.std.specs.Prelude.{List, ◌∷◌, if◌then◌else◌}
use Rattle.nm_choice.specs.declared.leg_state.LegState.TheVariants as state
use Rattle.nm_regions.specs.Table.{has_behind}
use Rattle.nm_rules.specs.declared.refusal.Refusal.{Refusal}
use Rattle.nm_rules.specs.declared.refusal.Refusal.TheVariants.{Settling, Stopped}
use Rattle.nm_rules.specs.Copy.{CopyRefused, HasNothing}
use Rattle.nm_rules.specs.Promote.{promote_cause}
use Rattle.nm_rules.specs.State.{StripeState, left, leg_state, table, work}
use Rattle.nm_stripe.specs.declared.answer.Answer.{Answer}
use Rattle.nm_stripe.specs.declared.answer.Answer.TheVariants.{Failed, MasterChanged, Copied}
use Rattle.nm_stripe.specs.declared.answer.Answer.TheVariants.{InSync, LegLost}
use Rattle.nm_stripe.specs.declared.step.Step.{Step}
use Rattle.nm_stripe.specs.declared.step.Step.TheVariants.{Fail, Copy, Promote}

-- how many blocks the step read or wrote for the copy to this leg
abbrev pub copies : {L : Type 0} → ℕ → Step L → Answer L → ℕ
copies leg (Copy other most from) (Copied moved left) = if other == leg then moved else 0
copies leg step answer = 0

-- how many the steps read or wrote for it
abbrev pub copied_count : {L : Type 0} → ℕ → List (Step L) → List (Answer L) → ℕ
copied_count leg (step ∷ steps) (answer ∷ answers) =
    copies leg step answer + copied_count leg steps answers
copied_count leg steps answers = 0

-- the step neither takes this leg out nor calls it in sync
abbrev pub StaysBehind : {L : Type 0} → ℕ → Step L → Answer L → Type 0
StaysBehind leg (Fail other) Failed = other ≢ leg
StaysBehind leg (Fail other) (MasterChanged master) = other ≢ leg
StaysBehind leg (Promote other) InSync = other ≢ leg
StaysBehind leg step (LegLost gone handed) = gone ≢ leg
StaysBehind leg step answer = Unit {0}

-- none of the steps does
abbrev pub StaysJoining : {L : Type 0} → ℕ → List (Step L) → List (Answer L) → Type 0
StaysJoining leg (step ∷ steps) (answer ∷ answers) =
    StaysBehind leg step answer × StaysJoining leg steps answers
StaysJoining leg steps answers = Unit {0}

-- the leg still joins, each block that was read or written for it was one fewer to read or write,
-- and these were at most two for each block that was left
pub record IsBounded {L : Type 0} (leg : ℕ) (steps : List (Step L)) (answers : List (Answer L))
    (old new : StripeState L) : Type 0 where
  pub joining : leg_state leg new ≡ state.Joining
  pub counts : work leg new + copied_count leg steps answers ≡ work leg old
  pub most : copied_count leg steps answers ≤ 2 * left leg old

-- the copy to each leg that joins, and stays joining over all of the steps, is bounded
abbrev pub BoundsCopies : {L : Type 0} → List (Step L) → List (Answer L)
    → StripeState L → StripeState L → Type 0
BoundsCopies steps answers old new =
    (leg : ℕ) → leg_state leg old ≡ state.Joining → StaysJoining leg steps answers
    → IsBounded leg steps answers old new

-- the leg is behind nowhere: it may be called in sync unless the stripe has stopped, and a step of
-- its copy is refused as Stopped or Settling alone, or else finds nothing to copy
pub record IsCopied {L : Type 0} (leg : ℕ) (stripe : StripeState L) : Type 0 where
  pub nowhere : has_behind leg (table stripe) ≡ false
  pub promotes : stripe.stopped ≡ false → promote_cause stripe leg ≡ None
  pub refused : (from : ℕ) (refusal : Refusal) → CopyRefused stripe leg from refusal
      → (refusal ≡ Stopped) ⊎ (refusal ≡ Settling)
  pub nothing : (from : ℕ) → stripe.stopped ≡ false → stripe.settling ≡ false
      → HasNothing stripe leg from
