-- How much a copy has still to do.
use Rattle.std.specs.Prelude.{ℕ, ◌-◌, ◌*◌, min}
use Rattle.nm_resync.specs.Chunk.{CopyBuffer, written_of, buffered_of}

-- how many blocks a chunk has that opens at the cursor of a region of so many blocks
abbrev pub chunk_length : ℕ → ℕ → ℕ → ℕ
chunk_length most cursor region_length = min most (region_length - cursor)

-- how many blocks are left to copy to the copy's leg, where so many are left from its cursor on
abbrev pub left : ℕ → CopyBuffer → ℕ
left from_cursor c = from_cursor - written_of c.chunk

-- how many moves are left: a read and a write for each block, less the reads that are done
abbrev pub work : ℕ → CopyBuffer → ℕ
work from_cursor c = 2 * left from_cursor c - buffered_of c.chunk
