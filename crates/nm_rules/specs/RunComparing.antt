-- A stripe that opens by comparing runs: each leg is read beside the master, by one call a run.
use Rattle.std.specs.Prelude.{◌≡◌, ◌≢◌, ℕ, zero, suc, ◌+◌, true, false, List, [], ◌∷◌, length}
use Rattle.nm_replay.specs.declared.block.Block.{Block}
use Rattle.nm_leg.specs.Leg.{LegType}
use Rattle.nm_rules.specs.Comparing.{compared, dropped, marked_at}
use Rattle.nm_rules.specs.RunCalls.{ReadsRunAt}
use Rattle.nm_rules.specs.Runs.{FitsRun}
use Rattle.nm_rules.specs.State.{StripeState, is_joining, leg_state}

-- the run from this block on is read on a leg that joins: it holds the master's blocks there, or
-- other blocks, or its read fails; the master itself, and a leg that is out, is passed over
pub data ComparesLegRun {L : Type 0} (type : LegType L) (block : ℕ) (blocks : List Block)
    (leg : ℕ) (old new : StripeState L) : Type 0 where
  IsPassedOver : is_joining (leg_state leg old) ≡ false → new ≡ old
      → ComparesLegRun type block blocks leg old new
  HoldsSame : is_joining (leg_state leg old) ≡ true
      → ReadsRunAt type true leg block blocks old.legs new.legs
      → new ≡ record old { legs = new.legs }
      → ComparesLegRun type block blocks leg old new
  HoldsOther : is_joining (leg_state leg old) ≡ true → (found : List Block)
      → ReadsRunAt type true leg block found old.legs new.legs
      → length found ≡ length blocks → found ≢ blocks
      → new ≡ marked_at leg block (record old { legs = new.legs })
      → ComparesLegRun type block blocks leg old new
  FailsRead : is_joining (leg_state leg old) ≡ true → (found : List Block)
      → ReadsRunAt type false leg block found old.legs new.legs
      → new ≡ dropped leg (record old { legs = new.legs })
      → ComparesLegRun type block blocks leg old new

-- the run is compared on the first so many legs, by rising number
abbrev pub ComparesLegsRun : {L : Type 0} → LegType L → ℕ → List Block → ℕ
    → StripeState L → StripeState L → Type 0
ComparesLegsRun type block blocks zero old new = new ≡ old
ComparesLegsRun {L} type block blocks (suc leg) old new =
    (mid : StripeState L)
    × ComparesLegsRun type block blocks leg old mid × ComparesLegRun type block blocks leg mid new

-- the run is read on the master, which gives these blocks, and then compared on all legs
pub record ComparesRun {L : Type 0} (type : LegType L) (block count : ℕ)
    (old new : StripeState L) : Type 0 where
  pub legs : List L
  pub found : List Block
  pub long : length found ≡ count
  pub reads : ReadsRunAt type true old.master block found old.legs legs
  pub compares : ComparesLegsRun type block found (length old.legs)
      (record old { legs = legs }) new

-- how many blocks runs of these lengths have
abbrev pub total_of : List ℕ → ℕ
total_of [] = 0
total_of (count ∷ counts) = total_of counts + count

-- runs of these lengths are compared, one after the other; the last stands first
abbrev pub ComparesRuns : {L : Type 0} → LegType L → List ℕ
    → StripeState L → StripeState L → Type 0
ComparesRuns type [] old new = new ≡ old
ComparesRuns {L} type (count ∷ counts) old new =
    (mid : StripeState L)
    × ComparesRuns type counts old mid × FitsRun old.place (total_of counts) count
    × ComparesRun type (total_of counts) count mid new

-- runs are compared, and the read of the next one on the master fails
pub record FailsOnMasterRun {L : Type 0} (type : LegType L) (old : StripeState L)
    (legs : List L) : Type 0 where
  pub counts : List ℕ
  pub mid : StripeState L
  pub compares : ComparesRuns type counts old mid
  pub found : List Block
  pub fits : FitsRun old.place (total_of counts) (length found)
  pub fails : ReadsRunAt type false mid.master (total_of counts) found mid.legs legs

-- the stripe was opened: all of its blocks were compared, by runs
pub record OpensComparedRuns {L : Type 0} (type : LegType L) (start new : StripeState L)
    : Type 0 where
  pub counts : List ℕ
  pub all : total_of counts ≡ start.place.blocks
  pub end : StripeState L
  pub compares : ComparesRuns type counts start end
  pub opens : new ≡ compared end
