-- A step asked of a stripe through a part.
use Rattle.std.specs.Prelude.{◌≡◌, IsFalse}
use Rattle.nm_leg.specs.Leg.{Leg, LegType}
use Rattle.nm_part.specs.PartState.{PartState}
use Rattle.nm_part.specs.Parts.{astray, is_astray}
use Rattle.nm_rules.specs.State.{StripeState}
use Rattle.nm_stripe.specs.Run.{MayBeAsked, StepOf}
use Rattle.nm_stripe.specs.declared.answer.Answer.{Answer}
use Rattle.nm_stripe.specs.declared.step.Step.{Step}

-- the stripe is the part's, and may be asked for this step
abbrev pub MayAsk : {L : Type 0} → (L → Leg) → Step L → PartState → StripeState L → Type 0
MayAsk model step part stripe = IsFalse (is_astray part stripe) × MayBeAsked model stripe step

-- where the part may ask for the step it is the stripe's, with the stripe before and after; else it
-- is astray, and nothing changes
pub data AsksStripe {L : Type 0} (type : LegType L) (step : Step L) (answer : Answer L)
    (part : PartState) (stripe : StripeState L × StripeState L) : Type 0 where
  GoesOn : MayAsk type.model step part stripe.0 → StepOf type step answer stripe.0 stripe.1
      → AsksStripe type step answer part stripe
  GoesAstray : ¬ MayAsk type.model step part stripe.0 → answer ≡ astray step
      → stripe.1 ≡ stripe.0 → AsksStripe type step answer part stripe
