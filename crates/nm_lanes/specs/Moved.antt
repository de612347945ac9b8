-- Events of a stripe as events of the mirror: the blocks are moved to where they lie in the export.
use Rattle.std.specs.Prelude.{ℕ, List, map}
use Rattle.nm_replay.specs.declared.entry.Entry.{Entry}
use Rattle.nm_replay.specs.Events.{Event, BeginsRead, BeginsWrite, Lands, RepliesRead, RepliesWrite}
use Rattle.nm_replay.specs.ReadLives.{ReadLife, NotBegun as NoRead, Begun as BegunRead}
use Rattle.nm_replay.specs.ReadLives.{Landed as LandedRead, Closed}
use Rattle.nm_replay.specs.WriteLives.{WriteLife, NotBegun, Begun, Landed, Replied}

-- an entry, with its block moved
abbrev pub moved_entry : (ℕ → ℕ) → Entry → Entry
moved_entry to entry = record entry { block = to entry.block }

-- an event, with its block moved where it names one
abbrev pub moved : (ℕ → ℕ) → Event → Event
moved to (BeginsRead number block) = BeginsRead number (to block)
moved to (BeginsWrite ticket block put) = BeginsWrite ticket (to block) put
moved to (Lands entry) = Lands (moved_entry to entry)
moved to (RepliesRead number bytes) = RepliesRead number bytes
moved to (RepliesWrite ticket number) = RepliesWrite ticket number

-- all of them, moved
abbrev pub moved_all : (ℕ → ℕ) → List Event → List Event
moved_all to events = map (moved to) events

-- how far a write is, with its block moved
abbrev pub moved_write : (ℕ → ℕ) → WriteLife → WriteLife
moved_write to NotBegun = NotBegun
moved_write to (Begun block put) = Begun (to block) put
moved_write to (Landed number) = Landed number
moved_write to Replied = Replied

-- how far a read is, with its block moved
abbrev pub moved_read : (ℕ → ℕ) → ReadLife → ReadLife
moved_read to NoRead = NoRead
moved_read to (BegunRead block) = BegunRead (to block)
moved_read to (LandedRead bytes) = LandedRead bytes
moved_read to Closed = Closed
