-- A store whose legs are being compared with the master.
use Rattle.std.specs.Prelude.{◌≡◌, ℕ, ◌<◌, true, false, List, length}
use Rattle.nm_replay.specs.declared.block.Block.{Block}
use Rattle.nm_leg.specs.Leg.{Leg, LegType}
use Rattle.nm_leg.specs.LegCalls.{EachHas}
use Rattle.nm_regions.specs.Table.{is_out}
use Rattle.nm_rules.specs.declared.open_fault.OpenFault.{OpenFault}
use Rattle.nm_rules.specs.declared.open_fault.OpenFault.TheVariants.{Memory, MasterFault}
use Rattle.nm_rules.specs.RunCalls.{ReadsRunAt}
use Rattle.nm_rules.specs.RunComparing.{ComparesRun, ComparesRuns, FailsOnMasterRun, total_of}
use Rattle.nm_rules.specs.Runs.{FitsRun}
use Rattle.nm_rules.specs.State.{StripeState, is_joining, leg_state, table}

-- the legs are as long as the stripe, the master is one of them, and those that join are out in the
-- region table, so that their regions may be marked
pub record IsComparing {L : Type 0} (model : L → Leg) (stripe : StripeState L) : Type 0 where
  pub lengths : EachHas model stripe.legs stripe.place.blocks
  pub states : length stripe.states ≡ length stripe.legs
  pub flags : length stripe.flags ≡ length stripe.legs
  pub master : stripe.master < length stripe.legs
  pub aside : (leg : ℕ) → leg < length stripe.legs → is_joining (leg_state leg stripe) ≡ true
      → is_out leg (table stripe) ≡ true

-- the run of so many blocks from this one on is compared
pub record ComparesNext {L : Type 0} (type : LegType L) (block : ℕ) (old new : StripeState L)
    (count : ℕ) : Type 0 where
  pub fits : FitsRun old.place block count
  pub compares : ComparesRun type block count old new

-- the read of a run on the master, from this block on, failed
pub record FailsOnRun {L : Type 0} (type : LegType L) (block : ℕ) (old : StripeState L)
    (legs : List L) : Type 0 where
  pub found : List Block
  pub fits : FitsRun old.place block (length found)
  pub fails : ReadsRunAt type false old.master block found old.legs legs

-- all blocks are compared, by runs
pub record ComparesAll {L : Type 0} (type : LegType L) (old new : StripeState L) : Type 0 where
  pub counts : List ℕ
  pub all : total_of counts ≡ old.place.blocks
  pub compares : ComparesRuns type counts old new

-- the stripe was not opened, and these legs come back: no leg was called, or the master failed
abbrev pub FailsToOpenRuns : {L : Type 0} → LegType L → StripeState L → OpenFault → List L → Type 0
FailsToOpenRuns type start Memory back = back ≡ start.legs
FailsToOpenRuns type start MasterFault back = FailsOnMasterRun type start back
