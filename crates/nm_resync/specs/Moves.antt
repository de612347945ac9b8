-- What a copy does next, and the buffer that each move leaves.
use Rattle.std.specs.Prelude.{ℕ, ◌+◌, ◌==◌, nat_lt, if◌then◌else◌, Option, None, Some}
use Rattle.std.specs.Prelude.{List, [], ◌++◌, length}
use Rattle.nm_replay.specs.declared.block.Block.{Block}
use Rattle.nm_leg.specs.Leg.{cut_into}
use Rattle.nm_resync.specs.declared.copy_move.Move.{Move}
use Rattle.nm_resync.specs.declared.copy_move.Move.TheVariants.{Open, Read, Write}
use Rattle.nm_resync.specs.Chunk.{Chunk, CopyBuffer}

-- a chunk is read to its end, and then written from its beginning
abbrev pub move_of : Option Chunk → Move
move_of None = Open
move_of (Some chunk) =
    if nat_lt (length chunk.blocks) chunk.length then Read (length chunk.blocks)
    else Write chunk.written

-- what the copy does next
abbrev pub next_move : CopyBuffer → Move
next_move c = move_of c.chunk

-- the move reads a block of an open chunk
abbrev pub IsRead : Move → Type 0
IsRead Open = ⊥
IsRead (Read k) = Unit {0}
IsRead (Write k) = ⊥

-- the move writes a block of an open chunk
abbrev pub IsWrite : Move → Type 0
IsWrite Open = ⊥
IsWrite (Read k) = ⊥
IsWrite (Write k) = Unit {0}

-- the move reads a block, be it the first of a chunk that is not open yet
abbrev pub Reads : Move → Type 0
Reads Open = Unit {0}
Reads (Read k) = Unit {0}
Reads (Write k) = ⊥

-- a chunk of so many blocks is open, and none of them is read
abbrev pub opened : ℕ → CopyBuffer → CopyBuffer
opened blocks c =
    record c { chunk = Some (record { length = blocks; blocks = []; written = 0 }) }

-- the chunk once these blocks of it are read too
abbrev pub after_read : List Block → Option Chunk → Option Chunk
after_read found None = None
after_read found (Some chunk) = Some (record chunk { blocks = chunk.blocks ++ found })

-- so many blocks that stand in the buffer are the chunk's next ones
abbrev pub filled : ℕ → CopyBuffer → CopyBuffer
filled count c = record c { chunk = after_read (cut_into count c.rest) c.chunk }

-- the chunk once so many more blocks of it are written: it closes with its last one
abbrev pub after_write : ℕ → Option Chunk → Option Chunk
after_write count None = None
after_write count (Some chunk) =
    if chunk.written + count == chunk.length then None
    else Some (record chunk { written = chunk.written + count })

-- so many more blocks of the chunk are written
abbrev pub blocks_written : ℕ → CopyBuffer → CopyBuffer
blocks_written count c = record c { chunk = after_write count c.chunk }

-- the length of the chunk that closes as so many more blocks of it are written
abbrev pub closed_by_write : ℕ → Option Chunk → Option ℕ
closed_by_write count None = None
closed_by_write count (Some chunk) =
    if chunk.written + count == chunk.length then Some chunk.length else None

-- no chunk is open
abbrev pub dropped : CopyBuffer → CopyBuffer
dropped c = record c { chunk = None }
