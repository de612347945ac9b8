-- What a read answers.
use Rattle.std.specs.Prelude.{◌≡◌, ◌≢◌, ℕ, [], List, Some, Result, Ok, Err}
use Rattle.nm_leg.specs.Leg.{HoldsRun, Leg, LegType, blocks_in, blocks_of}
use Rattle.nm_rules.specs.declared.refusal.Refusal.{Refusal}
use Rattle.nm_rules.specs.declared.refusal.Refusal.TheVariants.{Fault}
use Rattle.nm_rules.specs.Acts.{IsExplainedStep}
use Rattle.nm_rules.specs.Array.{stripe_array}
use Rattle.nm_rules.specs.RunRead.{FindsRun, LosesInReadRun, FailsInReadRun, read_run_cause}
use Rattle.nm_rules.specs.RunRead.{marks_of_reads}
use Rattle.nm_rules.specs.State.{StripeState}
use Rattle.nm_stripe.specs.declared.read.Reading.{Reading}
use Rattle.nm_stripe.specs.declared.read.Reading.TheVariants.{Value, LegLost}

-- a read of blocks from this one on, with its answer; these bytes are then in the target
abbrev pub Reads : {L : Type 0} → LegType L → StripeState L → StripeState L → ℕ → List ℕ
    → Reading L → Type 0
Reads type old new block bytes (Value receipt) =
    FindsRun type old new block (blocks_of bytes) receipt
Reads type old new block bytes (LegLost leg) =
    LosesInReadRun type old new block leg (blocks_of bytes)

-- a read that is refused: for its cause, which changes nothing, and leaves the target as it was; or
-- because the only leg in sync failed
pub data RefusesRead {L : Type 0} (type : LegType L) (old new : StripeState L) (block : ℕ)
    (was is : List ℕ) (refusal : Refusal) : Type 0 where
  ForCause : read_run_cause old (blocks_in was) ≡ Some refusal → new ≡ old → is ≡ was
      → RefusesRead type old new block was is refusal
  ForFault : refusal ≡ Fault → FailsInReadRun type old new block (blocks_of is)
      → RefusesRead type old new block was is refusal

-- the bytes are the array's, and the read of each block is explained by its begin and its reply; or
-- a leg was lost
abbrev pub IsExplainedReading : {L : Type 0} → (L → Leg) → StripeState L → StripeState L → ℕ
    → List ℕ → Reading L → Type 0
IsExplainedReading model old new block bytes (Value receipt) =
    HoldsRun block (blocks_of bytes) (stripe_array model old)
    × IsExplainedStep model (marks_of_reads receipt.number block (blocks_of bytes)) old new
IsExplainedReading model old new block bytes (LegLost leg) = IsExplainedStep model [] old new

-- what is refused for its cause leaves the target as it was: no leg was called
abbrev pub LeavesTarget : {L : Type 0} → Result (Reading L) Refusal → List ℕ → List ℕ → Type 0
LeavesTarget (Ok reading) was is = Unit {0}
LeavesTarget (Err refusal) was is = refusal ≢ Fault → is ≡ was
