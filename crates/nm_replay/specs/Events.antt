-- What is seen of operations on an array: when each begins, takes effect and is replied to.
use Rattle.std.specs.Prelude.{ℕ, List, [], ◌∷◌}
use Rattle.nm_replay.specs.declared.block.Block.{Block}
use Rattle.nm_replay.specs.declared.entry.Kind.{Kind}
use Rattle.nm_replay.specs.declared.entry.Kind.TheVariants.{Read, Write, Patch}
use Rattle.nm_replay.specs.declared.entry.Entry.{Entry}
use Rattle.nm_replay.specs.Array.{Put, Span, Entire, Piece}

-- Operations begin and are replied to at their callers; entries land in the history.
-- A write is named by its ticket, a read by the number of its entry.
pub data Event : Type 0 where
  BeginsRead : (number block : ℕ) → Event
  BeginsWrite : (ticket block : ℕ) (put : Put) → Event
  Lands : (entry : Entry) → Event
  RepliesRead : (number : ℕ) (bytes : Block) → Event
  RepliesWrite : (ticket number : ℕ) → Event

-- the entry of a read
abbrev pub entry_of_read : ℕ → ℕ → Block → Entry
entry_of_read number block bytes =
    record { seq = number; kind = Read; block = block; bytes = bytes }

-- the kind of the entry of a write of this span
abbrev pub write_kind : ℕ → Span → Kind
write_kind ticket Entire = Write ticket
write_kind ticket (Piece from len) = Patch ticket from len

-- the entry of a write of this span, which left these bytes in its block
abbrev pub entry_of_write : ℕ → ℕ → ℕ → Span → Block → Entry
entry_of_write number ticket block span bytes =
    record { seq = number; kind = write_kind ticket span; block = block; bytes = bytes }

-- the entries among the events
abbrev pub entries_of : List Event → List Entry
entries_of [] = []
entries_of (BeginsRead number block ∷ events) = entries_of events
entries_of (BeginsWrite ticket block put ∷ events) = entries_of events
entries_of (Lands entry ∷ events) = entry ∷ entries_of events
entries_of (RepliesRead number bytes ∷ events) = entries_of events
entries_of (RepliesWrite ticket number ∷ events) = entries_of events

-- the begins and replies among the events
abbrev pub marks_of : List Event → List Event
marks_of [] = []
marks_of (BeginsRead number block ∷ events) = BeginsRead number block ∷ marks_of events
marks_of (BeginsWrite ticket block put ∷ events) =
    BeginsWrite ticket block put ∷ marks_of events
marks_of (Lands entry ∷ events) = marks_of events
marks_of (RepliesRead number bytes ∷ events) = RepliesRead number bytes ∷ marks_of events
marks_of (RepliesWrite ticket number ∷ events) = RepliesWrite ticket number ∷ marks_of events
