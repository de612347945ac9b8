-- Laws of pieces: they cut their range, and nothing else does.
use Rattle.std.specs.Prelude.{◌≡◌, ℕ, ◌/◌, ◌<◌, List, length, Some, slice_get}
use Rattle.nm_geometry.specs.declared.piece.Piece.{Piece}
use Rattle.nm_geometry.specs.declared.byte_range.ByteRange.{ByteRange}
use Rattle.nm_geometry.specs.Geometry.{Geometry}
use Rattle.nm_geometry.specs.Pieces.{end_of, LiesInside, touched, piece_at, pieces_of, Cuts}

-- a range's pieces cut its bytes, from its first block on
abbrev pub PiecesCutTheRange : Type 0
PiecesCutTheRange =
    (range : ByteRange)
    → Cuts (pieces_of range) (range.offset / 512) range.offset (end_of range)

-- no other pieces do
abbrev pub NothingElseCutsTheRange : Type 0
NothingElseCutsTheRange =
    (range : ByteRange) (pieces : List Piece)
    → Cuts pieces (range.offset / 512) range.offset (end_of range)
    → pieces ≡ pieces_of range

-- the pieces are as many as the blocks that the range touches, and each is the one of its number
pub record AreByNumber (range : ByteRange) : Type 0 where
  pub count : length (pieces_of range) ≡ touched range
  pub each :
      (number : ℕ) → number < touched range
      → slice_get (pieces_of range) number ≡ Some (piece_at number range)

-- so it is for each range
abbrev pub PiecesByNumber : Type 0
PiecesByNumber = (range : ByteRange) → AreByNumber range

-- the pieces of a range inside the export are of blocks of the export
abbrev pub PiecesLieInside : Type 0
PiecesLieInside =
    (shape : Geometry) (range : ByteRange) (number : ℕ)
    → LiesInside range shape → number < touched range
    → (piece_at number range).block < shape.blocks
