-- Ranges of an export's bytes, cut into pieces of blocks.
use Rattle.std.specs.Prelude.{◌≡◌, ℕ, zero, suc, ◌+◌, ◌-◌, ◌*◌, ◌/◌, ◌≤◌, ◌<◌, ◌==◌, min}
use Rattle.std.specs.Prelude.{if◌then◌else◌, List, [], ◌∷◌}
use Rattle.nm_geometry.specs.declared.piece.Piece.{Piece}
use Rattle.nm_geometry.specs.declared.byte_range.ByteRange.{ByteRange}
use Rattle.nm_geometry.specs.Geometry.{Geometry}

-- the byte after the last of a range
abbrev pub end_of : ByteRange → ℕ
end_of range = range.offset + range.length

-- the range's bytes are bytes of the export
abbrev pub LiesInside : ByteRange → Geometry → Type 0
LiesInside range shape = end_of range ≤ 512 * shape.blocks

-- the first byte of a piece, counted in the export
abbrev pub start_of : Piece → ℕ
start_of piece = 512 * piece.block + piece.from

-- the byte after the last of a piece
abbrev pub stop_of : Piece → ℕ
stop_of piece = start_of piece + piece.len

-- a piece is a whole block
abbrev pub IsWhole : Piece → Type 0
IsWhole piece = (piece.from ≡ 0) × (piece.len ≡ 512)

-- how many blocks a range touches: from that of its first byte to that of its last
abbrev pub touched : ByteRange → ℕ
touched range =
    if range.length == 0 then 0 else (end_of range - 1) / 512 - range.offset / 512 + 1

-- what a range has of a block: from where it begins, or the block does, to where one of them ends
abbrev pub piece_in : ℕ → ByteRange → Piece
piece_in block range = record {
  block = block;
  from = range.offset - 512 * block;
  len = min (end_of range - 512 * block) 512 - (range.offset - 512 * block);
}

-- the piece of this number
abbrev pub piece_at : ℕ → ByteRange → Piece
piece_at number range = piece_in (range.offset / 512 + number) range

-- how many bytes of the range lie before the piece of this number
abbrev pub bytes_before : ℕ → ByteRange → ℕ
bytes_before number range = 512 * (range.offset / 512 + number) - range.offset

-- what a range has of so many blocks, from this one on
abbrev pub pieces_from : ℕ → ℕ → ByteRange → List Piece
pieces_from block zero range = []
pieces_from block (suc more) range = piece_in block range ∷ pieces_from (block + 1) more range

-- the pieces of a range, one for each block that it touches
abbrev pub pieces_of : ByteRange → List Piece
pieces_of range = pieces_from (range.offset / 512) (touched range) range

-- a piece of this block that begins at this byte of the export, and is not empty
pub record IsPieceAt (block start : ℕ) (piece : Piece) : Type 0 where
  pub block_is : piece.block ≡ block
  pub starts : start_of piece ≡ start
  pub some : 0 < piece.len
  pub in_block : piece.from + piece.len ≤ 512

-- the pieces cut the bytes from one to another: each begins where the one before it stops, in the
-- block after that one's, and is not empty
abbrev pub Cuts : List Piece → ℕ → ℕ → ℕ → Type 0
Cuts [] block from to = to ≡ from
Cuts (piece ∷ pieces) block from to =
    IsPieceAt block from piece × Cuts pieces (block + 1) (stop_of piece) to
