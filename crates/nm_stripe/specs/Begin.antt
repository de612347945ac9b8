-- What a begin answers.
use Rattle.std.specs.Prelude.{◌≡◌, ℕ, List, [], ◌∷◌, Some}
use Rattle.nm_replay.specs.Array.{Put}
use Rattle.nm_fanout.specs.declared.block_data.Data.{Data}
use Rattle.nm_fanout.specs.declared.block_data.Data.TheVariants.{Cut, Zero}
use Rattle.nm_fanout.specs.declared.record_data.RecordData.TheVariants as kept
use Rattle.nm_fanout.specs.Data.{data_blocks, put_of_data}
use Rattle.nm_fanout.specs.Runs.{each_block}
use Rattle.nm_leg.specs.Leg.{Leg, LegType}
use Rattle.nm_rules.specs.declared.refusal.Refusal.{Refusal}
use Rattle.nm_rules.specs.declared.refusal.Refusal.TheVariants.{Fault}
use Rattle.nm_rules.specs.Acts.{IsExplainedStep}
use Rattle.nm_rules.specs.Begin.{Begins, LosesInBegin, FailsInBegin}
use Rattle.nm_rules.specs.RunBegin.{BeginsRun, begin_run_cause, begins_of, puts_of}
use Rattle.nm_rules.specs.State.{StripeState}
use Rattle.nm_stripe.specs.declared.begin.Beginning.{Beginning}
use Rattle.nm_stripe.specs.declared.begin.Beginning.TheVariants.{Begun, LegLost}

-- a write of these data begins, from this block on and under this ticket: whole blocks are a run of
-- theirs, a part is laid over what its block holds
abbrev pub BeginsWith : {L : Type 0} → LegType L → StripeState L → StripeState L → ℕ → Data → ℕ
    → Type 0
BeginsWith type old new block (Cut cut) ticket =
    BeginsRun old new block (each_block (kept.Cut cut)) ticket
BeginsWith type old new block (Zero count) ticket =
    BeginsRun old new block (each_block (kept.Zero count)) ticket
BeginsWith type old new block part ticket = Begins type old new block part ticket

-- what the data put into each of their blocks, in order
abbrev pub puts_in : Data → List Put
puts_in (Cut cut) = puts_of (each_block (kept.Cut cut))
puts_in (Zero count) = puts_of (each_block (kept.Zero count))
puts_in part = put_of_data part ∷ []

-- a begin of a write of these data from this block on, with its answer: the write has begun, or the
-- master that a part was to be read from was lost, and the data come back
abbrev pub BeginsOrLoses : {L : Type 0} → LegType L → StripeState L → StripeState L → ℕ → Data
    → Beginning → Type 0
BeginsOrLoses type old new block bytes (Begun ticket) =
    BeginsWith type old new block bytes ticket
BeginsOrLoses type old new block bytes (LegLost leg back) =
    LosesInBegin type old new block bytes leg × (back ≡ bytes)

-- a begin that is refused: for its cause, which changes nothing; or because the only leg in sync
-- failed as a part's block was read
pub data RefusesBegin {L : Type 0} (type : LegType L) (old new : StripeState L) (block : ℕ)
    (bytes : Data) (refusal : Refusal) : Type 0 where
  ForCause : begin_run_cause old block (data_blocks bytes) ≡ Some refusal → new ≡ old
      → RefusesBegin type old new block bytes refusal
  ForFault : refusal ≡ Fault → FailsInBegin type old new block bytes
      → RefusesBegin type old new block bytes refusal

-- the begin of each block's write is explained; or a leg was lost
abbrev pub IsExplainedBegin : {L : Type 0} → (L → Leg) → StripeState L → StripeState L → ℕ → Data
    → Beginning → Type 0
IsExplainedBegin model old new block bytes (Begun ticket) =
    IsExplainedStep model (begins_of ticket block (puts_in bytes)) old new
IsExplainedBegin model old new block bytes (LegLost leg back) = IsExplainedStep model [] old new
