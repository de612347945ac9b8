-- Laws of runs: what is one step, and where runs end.
use Rattle.std.specs.Prelude.{◌≡◌, ℕ, ◌+◌, ◌-◌, ◌/◌, ◌%◌, ◌<◌, ◌≤◌, IsTrue, List, []}
use Rattle.std.specs.Prelude.{◌∷◌, ◌++◌}
use Rattle.nm_geometry.specs.declared.byte_range.ByteRange.{ByteRange}
use Rattle.nm_geometry.specs.Geometry.{Geometry}
use Rattle.nm_geometry.specs.Pieces.{pieces_from}
use Rattle.nm_lanes.specs.declared.run.Run.{Run}
use Rattle.nm_lanes.specs.Runs.{in_one_run, run_blocks, runs_of, runs_of_range, IsRun}

-- the range has whole blocks, and one run may have the first and the last of them
pub record IsOfOneRun (shape : Geometry) (range : ByteRange) : Type 0 where
  pub some : 0 < range.length
  pub begins : range.offset % 512 ≡ 0
  pub ends : range.length % 512 ≡ 0
  pub one :
      IsTrue
      (in_one_run shape (range.offset / 512) (range.offset / 512 + range.length / 512 - 1))

-- the pieces of such a range are one run, so that a write or a read of it is one step
abbrev pub BlocksMakeOneRun : Type 0
BlocksMakeOneRun =
    (shape : Geometry) (range : ByteRange) → 0 < shape.region → IsOfOneRun shape range
    → runs_of_range shape range
    ≡ record { block = range.offset / 512; from = 0; len = range.length } ∷ []

-- blocks of one region may be in one run where regions have at most 128 blocks
abbrev pub RegionsAreOfOneRun : Type 0
RegionsAreOfOneRun =
    (shape : Geometry) (one other : ℕ) → 0 < shape.region → shape.region ≤ 128
    → one / shape.region ≡ other / shape.region → IsTrue (in_one_run shape one other)

-- no run goes on where a region begins: the runs of some blocks are those before it, and then
-- those after it
abbrev pub RunsEndWithRegions : Type 0
RunsEndWithRegions =
    (shape : Geometry) (range : ByteRange) (block before after : ℕ)
    → (block + before) % shape.region ≡ 0
    → runs_of shape (pieces_from block (before + after) range)
    ≡ runs_of shape (pieces_from block before range)
    ++ runs_of shape (pieces_from (block + before) after range)

-- a stripe may be asked for the run in one step: its bytes lie in its blocks, of which the first
-- and the last may be in one run, and there are at most 128
pub record FitsStep (shape : Geometry) (run : Run) : Type 0 where
  pub is_run : IsRun run
  pub some : 0 < run.len
  pub most : run_blocks run ≤ 128
  pub one : IsTrue (in_one_run shape run.block (run.block + run_blocks run - 1))

-- each of the runs fits
abbrev pub AllFit : Geometry → List Run → Type 0
AllFit shape [] = Unit {0}
AllFit shape (run ∷ runs) = FitsStep shape run × AllFit shape runs

-- so do those of each range
abbrev pub RunsFitSteps : Type 0
RunsFitSteps =
    (shape : Geometry) (range : ByteRange) → 0 < shape.region
    → AllFit shape (runs_of_range shape range)
