-- What a step of a copy answers, and which region it copies.
use Rattle.std.specs.Prelude.{◌≡◌, ℕ, if◌then◌else◌, Option, None}
use Rattle.nm_leg.specs.Leg.{LegType}
use Rattle.nm_rules.specs.declared.refusal.Refusal.{Refusal}
use Rattle.nm_rules.specs.declared.refusal.Refusal.TheVariants.{Fault}
use Rattle.nm_rules.specs.Copy.{CopyRefused, HasNothing}
use Rattle.nm_rules.specs.RunCopy.{FailsInCopyRun, LosesInCopyRun}
use Rattle.nm_rules.specs.State.{StripeState, is_joining, left, leg_state}
use Rattle.nm_store.specs.Copying.{MovesRun, next_region}
use Rattle.nm_stripe.specs.declared.copy.Copying.{Copying}
use Rattle.nm_stripe.specs.declared.copy.Copying.TheVariants.{Copied, Nothing, LegLost}

-- the region that a step of the copy to a joining leg goes on with, if there is something to copy
-- where no region below `from` is opened
abbrev pub region_to_copy : {L : Type 0} → ℕ → ℕ → StripeState L → Option ℕ
region_to_copy leg from stripe =
    if is_joining (leg_state leg stripe) then next_region leg from stripe else None

-- a step of the copy to this leg, of at most so many blocks, with its answer
abbrev pub Copies : {L : Type 0} → LegType L → StripeState L → StripeState L → ℕ → ℕ → ℕ
    → Copying → Type 0
Copies type old new leg most from (Copied moved blocks) =
    MovesRun type old new leg most from moved × (blocks ≡ left leg new)
Copies type old new leg most from Nothing = HasNothing old leg from × (new ≡ old)
Copies type old new leg most from (LegLost gone) = LosesInCopyRun type old new leg gone most from

-- a step that is refused: for its cause, which changes nothing; or because the only leg in sync
-- failed
pub data RefusesCopy {L : Type 0} (type : LegType L) (old new : StripeState L)
    (leg most from : ℕ) (refusal : Refusal) : Type 0 where
  ForCause : CopyRefused old leg from refusal → new ≡ old
      → RefusesCopy type old new leg most from refusal
  ForFault : refusal ≡ Fault → FailsInCopyRun type old new leg most from
      → RefusesCopy type old new leg most from refusal
