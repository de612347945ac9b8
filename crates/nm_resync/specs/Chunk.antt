-- The open chunk of a copy, and the buffer that it is read into.
use Rattle.std.specs.Prelude.{◌≡◌, ℕ, ◌-◌, ◌*◌, ◌<◌, ◌≤◌, Option, None, Some, IfSome}
use Rattle.std.specs.Prelude.{List, [], length, replicate}
use Rattle.nm_replay.specs.declared.block.Block.{Block}

-- an open chunk: how many blocks it has, those read so far, and how many of them are written
pub record Chunk : Type 0 where
  pub length : ℕ
  pub blocks : List Block
  pub written : ℕ

-- the most blocks that a chunk may have, the open chunk, and the bytes that stand in the buffer
-- where the next blocks are read into
pub record CopyBuffer : Type 0 where
  pub most : ℕ
  pub chunk : Option Chunk
  pub rest : List ℕ

-- a chunk closes with its last block, and all of it is read before any of it is written
pub record IsChunk (most : ℕ) (chunk : Chunk) : Type 0 where
  pub some : 0 < chunk.length
  pub fits : chunk.length ≤ most
  pub read : length chunk.blocks ≤ chunk.length
  pub unfinished : chunk.written < chunk.length
  pub read_first : 0 < chunk.written → length chunk.blocks ≡ chunk.length

-- the sizes that a chunk may have
pub record IsChunkSize (most : ℕ) : Type 0 where
  pub some : 0 < most
  pub limit : most ≤ 65536

-- the buffer has a size that a chunk may have, and an open chunk fits it
pub record IsCopyBuffer (c : CopyBuffer) : Type 0 where
  pub size : IsChunkSize c.most
  pub chunk : IfSome c.chunk (IsChunk c.most)

-- a buffer for chunks of so many blocks, before the first
abbrev pub empty : ℕ → CopyBuffer
empty most = record { most = most; chunk = None; rest = replicate (512 * most) 0 }

-- how many blocks the open chunk has: none where no chunk is open
abbrev pub length_of : Option Chunk → ℕ
length_of None = 0
length_of (Some chunk) = chunk.length

-- the blocks of the open chunk that are read
abbrev pub blocks_of : Option Chunk → List Block
blocks_of None = []
blocks_of (Some chunk) = chunk.blocks

-- how many blocks of the open chunk are written
abbrev pub written_of : Option Chunk → ℕ
written_of None = 0
written_of (Some chunk) = chunk.written

-- how many blocks stand in the buffer: they are read, and not written yet
abbrev pub buffered_of : Option Chunk → ℕ
buffered_of None = 0
buffered_of (Some chunk) = length chunk.blocks - chunk.written
