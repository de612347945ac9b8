-- Legs that lose power while they are out. No step calls such a leg, so what it lost shows when it
-- comes back, and not before.
use Rattle.std.specs.Prelude.{◌≡◌, ◌≢◌, ◌⊎◌, ℕ, ◌<◌, Some, length, slice_get}
use Rattle.nm_leg.specs.Leg.{LegType}
use Rattle.nm_rules.specs.Attach.{Returns}
use Rattle.nm_rules.specs.Losing.{with_part}
use Rattle.nm_rules.specs.Reopening.{Marks}
use Rattle.nm_rules.specs.State.{left}
use Rattle.nm_stripe.specs.declared.answer.Answer.{Answer}
use Rattle.nm_stripe.specs.declared.answer.Answer.TheVariants.{Joining}
use Rattle.nm_stripe.specs.declared.step.Step.{Step}
use Rattle.nm_stripe.specs.declared.step.Step.TheVariants.{Replace, Return}
use Rattle.nm_gate.specs.declared.gated_stripe.GatedStripe.{GatedStripe}
use Rattle.nm_gate.specs.Gate.{IsAllowed}
use Rattle.nm_gate.specs.Returning.{suspects}
use Rattle.nm_losses.specs.Crashing.{CrashesTo}
use Rattle.nm_history.specs.declared.transition.Move.{Move}
use Rattle.nm_history.specs.declared.transition.Move.TheVariants.{Opens, Does, Loses}

-- no leg
abbrev pub none_lost : ℕ → Type 0
none_lost leg = ⊥

-- the legs that lost power since they went out, once a move is made
abbrev pub lost_after : {L : Type 0} → Move L → (ℕ → Type 0) → ℕ → Type 0
lost_after Opens lost leg = ⊥
lost_after (Loses gone) lost leg = (leg ≡ gone) ⊎ lost leg
lost_after (Does (Return back marks) (Joining blocks)) lost leg = (leg ≢ back) × lost leg
lost_after (Does (Replace new part) (Joining blocks)) lost leg = (leg ≢ new) × lost leg
lost_after move lost leg = lost leg

-- the leg comes back as what a loss of its power left of it, with the marks that the gate gives
pub record ComesBack {L : Type 0} (type : LegType L) (leg : ℕ) (marks : Marks)
    (old new : GatedStripe L) : Type 0 where
  pub held : L
  pub part : L
  pub there : leg < length old.stripe.legs
  pub was : slice_get old.stripe.legs leg ≡ Some held
  pub crash : CrashesTo type.model held part
  pub allowed : IsAllowed old.durable old.stripe (Return leg marks)
  pub marked : marks ≡ suspects leg old.durable
  pub returns : Returns type.model (with_part old.stripe leg part) new.stripe leg marks
  pub durable : new.durable ≡ old.durable

-- the step is a return, of one of these legs
abbrev pub IsReturnOf : {L : Type 0} → (ℕ → Type 0) → Step L → Type 0
IsReturnOf lost (Return leg marks) = lost leg
IsReturnOf lost step = ⊥

-- the step brings back a leg that lost power
abbrev pub Recovers : {L : Type 0} → LegType L → Step L → Answer L → (old new : GatedStripe L)
    → Type 0
Recovers type (Return leg marks) (Joining blocks) old new =
    ComesBack type leg marks old new × (blocks ≡ left leg new.stripe)
Recovers type step answer old new = ⊥
