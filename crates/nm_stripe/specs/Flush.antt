-- What a flush makes durable.
use Rattle.std.specs.Prelude.{◌≡◌, ◌⊎◌, ℕ, ◌<◌, List, ◌∷◌, None, length}
use Rattle.nm_fanout.specs.Data.{data_blocks}
use Rattle.nm_fanout.specs.Records.{busy_on}
use Rattle.nm_leg.specs.Leg.{IsOutside, Leg}
use Rattle.nm_rules.specs.declared.refusal.Refusal.TheVariants.{AlreadyOut}
use Rattle.nm_rules.specs.Flushed.{DurableAt}
use Rattle.nm_rules.specs.State.{StripeState}
use Rattle.nm_stripe.specs.declared.answer.Answer.{Answer}
use Rattle.nm_stripe.specs.declared.answer.Answer.TheVariants.{Begun, Synced, LegLost, Refused}
use Rattle.nm_stripe.specs.declared.step.Step.{Step}
use Rattle.nm_stripe.specs.declared.step.Step.TheVariants.{Begin, Flush, Sync}

-- the step synced or flushed this leg, or found or made it out
abbrev pub SyncsLeg : {L : Type 0} → ℕ → Step L → Answer L → Type 0
SyncsLeg leg (Sync other) Synced = other ≡ leg
SyncsLeg leg (Sync other) (LegLost gone handed) = other ≡ leg
SyncsLeg leg (Sync other) (Refused AlreadyOut handed) = other ≡ leg
SyncsLeg leg (Flush other) Synced = other ≡ leg
SyncsLeg leg (Flush other) (LegLost gone handed) = other ≡ leg
SyncsLeg leg (Flush other) (Refused AlreadyOut handed) = other ≡ leg
SyncsLeg leg step answer = ⊥

-- one of the steps did
abbrev pub HasSynced : {L : Type 0} → ℕ → List (Step L) → List (Answer L) → Type 0
HasSynced leg (step ∷ steps) (answer ∷ answers) =
    SyncsLeg leg step answer ⊎ HasSynced leg steps answers
HasSynced leg steps answers = ⊥

-- the steps are a flush: for each of so many legs one of them did
abbrev pub IsFlush : {L : Type 0} → ℕ → List (Step L) → List (Answer L) → Type 0
IsFlush legs steps answers = (leg : ℕ) → leg < legs → HasSynced leg steps answers

-- the step begins no write of this block
abbrev pub LeavesBlock : {L : Type 0} → ℕ → Step L → Answer L → Type 0
LeavesBlock block (Begin first bytes) (Begun ticket) = IsOutside first (data_blocks bytes) block
LeavesBlock block step answer = Unit {0}

-- none of the steps does
abbrev pub NoneBegins : {L : Type 0} → ℕ → List (Step L) → List (Answer L) → Type 0
NoneBegins block (step ∷ steps) (answer ∷ answers) =
    LeavesBlock block step answer × NoneBegins block steps answers
NoneBegins block steps answers = Unit {0}

-- after a flush each leg in sync holds the array durably at each block on which no write was under
-- way before and none began
abbrev pub Flushes : {L : Type 0} → (L → Leg) → List (Step L) → List (Answer L)
    → StripeState L → StripeState L → Type 0
Flushes model steps answers old new =
    IsFlush (length old.legs) steps answers → (leg block : ℕ) → block < old.place.blocks
    → busy_on block old.records ≡ None → NoneBegins block steps answers
    → DurableAt model new leg block
