-- Laws of a copy: blocks that are read, and blocks that are written, lower its work by as many.
use Rattle.std.specs.Prelude.{◌≡◌, ℕ, ◌+◌, ◌-◌, ◌≤◌, None, Some, length}
use Rattle.nm_resync.specs.Chunk.{CopyBuffer, IsCopyBuffer, length_of, blocks_of, written_of}
use Rattle.nm_resync.specs.Moves.{next_move, IsRead, IsWrite, opened, filled}
use Rattle.nm_resync.specs.Moves.{blocks_written, closed_by_write}
use Rattle.nm_resync.specs.Work.{left, work}

-- an opened chunk leaves the work
abbrev pub OpenKeepsWork : Type 0
OpenKeepsWork =
    (from_cursor blocks : ℕ) (c : CopyBuffer) → c.chunk ≡ None
    → work from_cursor (opened blocks c) ≡ work from_cursor c

-- blocks that are read lower the work by as many
abbrev pub ReadLowersWork : Type 0
ReadLowersWork =
    (from_cursor count : ℕ) (c : CopyBuffer) → IsCopyBuffer c → length_of c.chunk ≤ from_cursor
    → IsRead (next_move c) → length (blocks_of c.chunk) + count ≤ length_of c.chunk
    → work from_cursor (filled count c) + count ≡ work from_cursor c

-- so do blocks that are written, where the chunk stays open
abbrev pub WriteLowersWork : Type 0
WriteLowersWork =
    (from_cursor count : ℕ) (c : CopyBuffer) → IsCopyBuffer c → length_of c.chunk ≤ from_cursor
    → IsWrite (next_move c) → written_of c.chunk + count ≤ length_of c.chunk
    → closed_by_write count c.chunk ≡ None
    → work from_cursor (blocks_written count c) + count ≡ work from_cursor c

-- so do a chunk's last blocks, after which the cursor stands after the chunk
abbrev pub CloseLowersWork : Type 0
CloseLowersWork =
    (from_cursor count blocks : ℕ) (c : CopyBuffer) → IsCopyBuffer c
    → length_of c.chunk ≤ from_cursor → IsWrite (next_move c)
    → closed_by_write count c.chunk ≡ Some blocks
    → work (from_cursor - blocks) (blocks_written count c) + count ≡ work from_cursor c

-- blocks that are written lower what is left to copy by as many, where the chunk stays open
abbrev pub WriteLowersLeft : Type 0
WriteLowersLeft =
    (from_cursor count : ℕ) (c : CopyBuffer) → IsCopyBuffer c → length_of c.chunk ≤ from_cursor
    → IsWrite (next_move c) → written_of c.chunk + count ≤ length_of c.chunk
    → closed_by_write count c.chunk ≡ None
    → left from_cursor (blocks_written count c) + count ≡ left from_cursor c

-- so do a chunk's last blocks, after which the cursor stands after the chunk
abbrev pub CloseLowersLeft : Type 0
CloseLowersLeft =
    (from_cursor count blocks : ℕ) (c : CopyBuffer) → IsCopyBuffer c
    → length_of c.chunk ≤ from_cursor → IsWrite (next_move c)
    → closed_by_write count c.chunk ≡ Some blocks
    → left (from_cursor - blocks) (blocks_written count c) + count ≡ left from_cursor c

-- blocks that are read leave what is left to copy
abbrev pub ReadKeepsLeft : Type 0
ReadKeepsLeft =
    (from_cursor count : ℕ) (c : CopyBuffer)
    → left from_cursor (filled count c) ≡ left from_cursor c
