-- What explained events say of several operations: real-time order, and what a read finds.
use Rattle.std.specs.Prelude.{◌≡◌, ℕ, ◌<◌, List, ◌∷◌, ◌++◌, Some, slice_get}
use Rattle.std.specs.Option.{option_or}
use Rattle.nm_replay.specs.declared.block.Block.{Block}
use Rattle.nm_replay.specs.Array.{Put, Span, Piece, SameOutside}
use Rattle.nm_replay.specs.History.{last_on}
use Rattle.nm_replay.specs.Events.{Event, BeginsRead, BeginsWrite, Lands, RepliesRead, RepliesWrite}
use Rattle.nm_replay.specs.Events.{entry_of_read, entry_of_write, entries_of}
use Rattle.nm_replay.specs.Explained.{Point, Explained, ExplainsWrite, ExplainsRead}

-- a write that was replied to before another write began has the lower number, whether or not the
-- other has a reply
abbrev pub WriteBeforeWrite : Type 0
WriteBeforeWrite =
    (ticket number other above block : ℕ) (put : Put) (span : Span) (bytes : Block)
    (earlier between following later : List Event)
    → ExplainsWrite ticket (earlier ++ RepliesWrite ticket number
    ∷ (between ++ BeginsWrite other block put
    ∷ (following ++ Lands (entry_of_write above other block span bytes) ∷ later)))
    → number < above

-- a write that was replied to before a read began has the lower number
abbrev pub WriteBeforeRead : Type 0
WriteBeforeRead =
    (ticket number above block : ℕ) (bytes : Block) (earlier between following later : List Event)
    → ExplainsWrite ticket (earlier ++ RepliesWrite ticket number
    ∷ (between ++ BeginsRead above block
    ∷ (following ++ Lands (entry_of_read above block bytes) ∷ later)))
    → number < above

-- a read that was replied to before a write began has the lower number
abbrev pub ReadBeforeWrite : Type 0
ReadBeforeWrite =
    (number other above block : ℕ) (found bytes : Block) (put : Put) (span : Span)
    (earlier between following later : List Event)
    → ExplainsRead number (earlier ++ RepliesRead number found
    ∷ (between ++ BeginsWrite other block put
    ∷ (following ++ Lands (entry_of_write above other block span bytes) ∷ later)))
    → number < above

-- a read that was replied to before another read began has the lower number
abbrev pub ReadBeforeRead : Type 0
ReadBeforeRead =
    (number above block : ℕ) (found bytes : Block) (earlier between following later : List Event)
    → ExplainsRead number (earlier ++ RepliesRead number found
    ∷ (between ++ BeginsRead above block
    ∷ (following ++ Lands (entry_of_read above block bytes) ∷ later)))
    → number < above

-- the entry of a read has the bytes of the last entry before it on its block, or, where there is
-- none, those that the array had there at first
abbrev pub ReadFindsTheLastBytes : Type 0
ReadFindsTheLastBytes =
    (from to : Point) (number block : ℕ) (bytes : Block) (earlier later : List Event)
    → Explained from to (earlier ++ Lands (entry_of_read number block bytes) ∷ later)
    → option_or (last_on block (entries_of earlier)) (slice_get from.array block) ≡ Some bytes

-- the entry of a write of a part has, outside the part, the bytes of the last entry before it on
-- its block, or, where there is none, those that the array had there at first
abbrev pub PatchKeepsTheRest : Type 0
PatchKeepsTheRest =
    (from to : Point) (number ticket block start len : ℕ) (bytes : Block)
    (earlier later : List Event)
    → Explained from to
    (earlier ++ Lands (entry_of_write number ticket block (Piece start len) bytes) ∷ later)
    → (old : Block)
    × (option_or (last_on block (entries_of earlier)) (slice_get from.array block) ≡ Some old)
    × SameOutside start len old bytes
