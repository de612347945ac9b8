-- The buffer that a `Copy` stands for.
use Rattle.std.specs.Prelude.{◌≡◌, ℕ, ◌*◌, ◌<◌, ◌≤◌, Option, None, Some, IfSome}
use Rattle.std.specs.Prelude.{List, length, drop}
use Rattle.nm_leg.specs.Leg.{cut_into}
use Rattle.nm_resync.specs.declared.open_chunk.OpenChunk.{OpenChunk}
use Rattle.nm_resync.specs.Chunk.{Chunk, CopyBuffer, IsChunkSize}

-- the open chunk, whose blocks are the first bytes
abbrev pub chunk_of : List ℕ → Option OpenChunk → Option Chunk
chunk_of bytes None = None
chunk_of bytes (Some chunk) = Some (record {
  length = chunk.blocks;
  blocks = cut_into chunk.read bytes;
  written = chunk.written;
})

-- how many blocks are read
abbrev pub read_of : Option OpenChunk → ℕ
read_of None = 0
read_of (Some chunk) = chunk.read

-- the bytes and the open chunk, as a buffer
abbrev pub buffer_of : ℕ → List ℕ → Option OpenChunk → CopyBuffer
buffer_of most bytes chunk = record {
  most = most;
  chunk = chunk_of bytes chunk;
  rest = drop (512 * read_of chunk) bytes;
}

-- the counts of an open chunk fit one another
pub record IsOpenChunk (most : ℕ) (chunk : OpenChunk) : Type 0 where
  pub some : 0 < chunk.blocks
  pub fits : chunk.blocks ≤ most
  pub read : chunk.read ≤ chunk.blocks
  pub unfinished : chunk.written < chunk.blocks
  pub read_first : 0 < chunk.written → chunk.read ≡ chunk.blocks

-- the bytes are those of as many blocks as a chunk may have, and the open chunk's counts fit them
pub record IsInside (most : ℕ) (bytes : List ℕ) (chunk : Option OpenChunk) : Type 0 where
  pub size : IsChunkSize most
  pub long : length bytes ≡ 512 * most
  pub counts : IfSome chunk (IsOpenChunk most)
