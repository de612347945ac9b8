-- Ranges of the pieces of a byte range: their blocks, their runs and their bytes.
use Rattle.std.specs.Prelude.{◌≡◌, ℕ, ◌+◌, ◌-◌, ◌*◌, ◌/◌, ◌%◌, ◌<◌, ◌≤◌, ◌⊎◌, min}
use Rattle.std.specs.Prelude.{List, ◌∷◌}
use Rattle.nm_geometry.specs.declared.byte_range.ByteRange.{ByteRange}
use Rattle.nm_geometry.specs.declared.piece.Piece.{Piece}
use Rattle.nm_geometry.specs.Geometry.{Geometry}
use Rattle.nm_geometry.specs.Pieces.{end_of, pieces_from}
use Rattle.nm_lanes.specs.declared.run.Run.{Run}
use Rattle.nm_lanes.specs.declared.piece_range.PieceRange.{PieceRange}
use Rattle.nm_lanes.specs.Runs.{run_blocks, runs_of, IsRun}

-- the block of a piece range's first piece
abbrev pub block_of : PieceRange → ℕ
block_of pieces = pieces.range.offset / 512 + pieces.first

-- the pieces of a piece range
abbrev pub all_pieces : PieceRange → List Piece
all_pieces pieces = pieces_from (block_of pieces) pieces.count pieces.range

-- the runs of a piece range
abbrev pub runs_in_pieces : Geometry → PieceRange → List Run
runs_in_pieces shape pieces = runs_of shape (all_pieces pieces)

-- the first pieces of a piece range
abbrev pub first_of : ℕ → PieceRange → PieceRange
first_of count pieces = record {
  range = pieces.range;
  first = pieces.first;
  count = count;
  no_payload = pieces.no_payload;
  is_read = pieces.is_read;
}

-- those after so many
abbrev pub rest_of : ℕ → PieceRange → PieceRange
rest_of count pieces = record {
  range = pieces.range;
  first = pieces.first + count;
  count = pieces.count - count;
  no_payload = pieces.no_payload;
  is_read = pieces.is_read;
}

-- after so many blocks the piece range ends, or a region does
abbrev pub EndsRegion : Geometry → PieceRange → ℕ → Type 0
EndsRegion shape pieces count =
    (count ≡ pieces.count) ⊎ ((block_of pieces + count) % shape.region ≡ 0)

-- how many bytes a range has of so many blocks, from this one on
abbrev pub bytes_in : ℕ → ℕ → ByteRange → ℕ
bytes_in block count range =
    min (end_of range - 512 * block) (512 * count) - (range.offset - 512 * block)

-- how many bytes the first pieces of a piece range have, so many of them
abbrev pub bytes_of : PieceRange → ℕ → ℕ
bytes_of pieces count = bytes_in (block_of pieces) count pieces.range

-- the first run of a piece range, of so many blocks
pub record IsFirstRun (shape : Geometry) (pieces : PieceRange) (run : Run) (blocks : ℕ)
    : Type 0 where
  pub some : 0 < blocks
  pub most : blocks ≤ pieces.count
  pub few : blocks ≤ 128
  pub block : run.block ≡ block_of pieces
  pub count : run_blocks run ≡ blocks
  pub bytes : run.len ≡ bytes_of pieces blocks
  pub is_run : IsRun run
  pub runs :
      runs_in_pieces shape pieces ≡ run ∷ runs_in_pieces shape (rest_of blocks pieces)
