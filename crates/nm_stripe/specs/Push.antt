-- What a push answers.
use Rattle.std.specs.Prelude.{◌≡◌, ℕ, []}
use Rattle.nm_leg.specs.Leg.{Leg, LegType}
use Rattle.nm_rules.specs.Acts.{IsExplainedStep}
use Rattle.nm_rules.specs.Push.{StillOwes, IsComplete}
use Rattle.nm_rules.specs.RunPush.{PushesRun, LosesInPushRun, HaltsInPushRun}
use Rattle.nm_rules.specs.State.{StripeState}
use Rattle.nm_stripe.specs.declared.push.Reach.{Reach}
use Rattle.nm_stripe.specs.declared.push.Reach.TheVariants.{Pushed, Complete, LegLost, Halted}

-- what a push of this ticket answers once it has reached its leg
abbrev pub IsReached : {L : Type 0} → StripeState L → ℕ → Reach → Type 0
IsReached stripe ticket (Pushed count) = StillOwes stripe ticket count
IsReached stripe ticket (Complete number) = IsComplete stripe ticket number
IsReached stripe ticket answer = ⊥

-- a push of this ticket's run to the leg, with its answer
abbrev pub Reaches : {L : Type 0} → LegType L → StripeState L → StripeState L → ℕ → ℕ → Reach
    → Type 0
Reaches type old new ticket leg (Pushed count) =
    PushesRun type old new ticket leg × StillOwes new ticket count
Reaches type old new ticket leg (Complete number) =
    PushesRun type old new ticket leg × IsComplete new ticket number
Reaches type old new ticket leg (LegLost gone) =
    (gone ≡ leg) × LosesInPushRun type old new ticket leg
Reaches type old new ticket leg Halted = HaltsInPushRun type old new ticket leg

-- a push is explained, unless it has stopped the stripe
abbrev pub IsExplainedReach : {L : Type 0} → (L → Leg) → StripeState L → StripeState L → Reach
    → Type 0
IsExplainedReach model old new (Pushed count) = IsExplainedStep model [] old new
IsExplainedReach model old new (Complete number) = IsExplainedStep model [] old new
IsExplainedReach model old new (LegLost gone) = IsExplainedStep model [] old new
IsExplainedReach model old new Halted = Unit {0}
