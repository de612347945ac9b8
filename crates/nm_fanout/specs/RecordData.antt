-- What the record of a write keeps of its data.
use Rattle.std.specs.Prelude.{◌≡◌, ℕ, ◌+◌, ◌*◌, ◌/◌, ◌<◌, ◌≤◌, List, length, replicate}
use Rattle.nm_replay.specs.Array.{Span, Entire, Piece}
use Rattle.nm_fanout.specs.declared.record_data.RecordData.{RecordData}
use Rattle.nm_fanout.specs.declared.record_data.RecordData.TheVariants.{Cut, Zero, Merged}

-- so many zero bytes
unfoldable pub zero_bytes : ℕ → List ℕ
zero_bytes n = replicate n 0

-- the new bytes of the blocks
abbrev pub bytes_of : RecordData → List ℕ
bytes_of (Cut cut) = cut
bytes_of (Zero count) = zero_bytes (512 * count)
bytes_of (Merged from len block) = block.0

-- how many blocks the data fill
abbrev pub blocks_in : RecordData → ℕ
blocks_in (Cut cut) = length cut / 512
blocks_in (Zero count) = count
blocks_in (Merged from len block) = 1

-- how many blocks of their own the data have
abbrev pub blocks_of : RecordData → ℕ
blocks_of (Cut cut) = 0
blocks_of (Zero count) = 0
blocks_of (Merged from len block) = 1

-- what of its block the write changes
abbrev pub span_of : RecordData → Span
span_of (Cut cut) = Entire
span_of (Zero count) = Entire
span_of (Merged from len block) = Piece from len

-- the bytes are as many as a block has
abbrev pub FillsBlock : RecordData → Type 0
FillsBlock bytes = length (bytes_of bytes) ≡ 512

-- the bytes are those of 1 to 128 whole blocks
pub record FillsBlocks (bytes : RecordData) : Type 0 where
  pub some : 0 < blocks_in bytes
  pub most : blocks_in bytes ≤ 128
  pub whole : length (bytes_of bytes) ≡ 512 * blocks_in bytes

-- the span lies inside a block
abbrev pub LiesInside : Span → Type 0
LiesInside Entire = Unit {0}
LiesInside (Piece from len) = from + len ≤ 512
