-- What is to be put into the runs of a piece range.
use Rattle.std.specs.Prelude.{◌≡◌, ℕ, ◌+◌, ◌<◌, ◌≤◌, ◌^◌, if◌then◌else◌, List, ◌∷◌, length, drop}
use Rattle.nm_geometry.specs.Geometry.{Geometry}
use Rattle.nm_geometry.specs.Pieces.{end_of, touched}
use Rattle.nm_lanes.specs.declared.run_write.RunWrite.{RunWrite}
use Rattle.nm_lanes.specs.declared.piece_range.PieceRange.{PieceRange}
use Rattle.nm_lanes.specs.Cuts.{runs_written, zeroes_for}
use Rattle.nm_lanes.specs.PieceRanges.{block_of, bytes_of, first_of, rest_of, runs_in_pieces}
use Rattle.nm_lanes.specs.PieceRanges.{IsFirstRun}

-- what is to be put into a piece range's runs: zeroes, or the cuts; of a read only the runs count
abbrev pub filling : Geometry → PieceRange → List RunWrite → List RunWrite
filling shape pieces cuts =
    if pieces.no_payload then zeroes_for (runs_in_pieces shape pieces) else cuts

-- how many cuts a piece range has: one for each of its runs
abbrev pub cuts_of : Geometry → PieceRange → ℕ
cuts_of shape pieces =
    if pieces.no_payload then 0 else length (runs_in_pieces shape pieces)

-- the cuts after those of so many blocks
abbrev pub cuts_after : Geometry → PieceRange → ℕ → List RunWrite → List RunWrite
cuts_after shape pieces count cuts = drop (cuts_of shape (first_of count pieces)) cuts

-- how many bytes of the target a piece range has: those of its pieces, where it is read
abbrev pub target_of : PieceRange → ℕ
target_of pieces = if pieces.is_read then bytes_of pieces pieces.count else 0

-- a piece range of a range that lies in the export, with its cuts
pub record IsPieceRange (shape : Geometry) (pieces : PieceRange) (cuts : List RunWrite)
    : Type 0 where
  pub end : end_of pieces.range < 2 ^ 64
  pub inside : pieces.first + pieces.count ≤ touched pieces.range
  pub blocks : block_of pieces + pieces.count ≤ shape.blocks
  pub runs : runs_written (filling shape pieces cuts) ≡ runs_in_pieces shape pieces

-- the first run of a piece range with its cuts, of so many blocks, is to be written so; these cuts
-- are left for the other runs
pub record TakesRun (shape : Geometry) (pieces : PieceRange) (cuts left : List RunWrite)
    (write : RunWrite) (blocks : ℕ) : Type 0 where
  pub first : IsFirstRun shape pieces write.run blocks
  pub taken :
      filling shape pieces cuts ≡ write ∷ filling shape (rest_of blocks pieces) left
  pub rest : IsPieceRange shape (rest_of blocks pieces) left
