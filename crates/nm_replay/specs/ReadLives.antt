-- The life of a read: it begins, lands with the bytes that it finds, and is replied to with them.
use Rattle.std.specs.Prelude.{◌≡◌, ℕ, ◌==◌, List, [], ◌∷◌, MatchBool}
use Rattle.nm_replay.specs.declared.block.Block.{Block}
use Rattle.nm_replay.specs.declared.entry.Kind.{Kind}
use Rattle.nm_replay.specs.declared.entry.Kind.TheVariants.{Read, Write, Patch}
use Rattle.nm_replay.specs.declared.entry.Entry.{Entry}
use Rattle.nm_replay.specs.Events.{Event, BeginsRead, BeginsWrite, Lands, RepliesRead, RepliesWrite}

-- How far a read is. What it will still need is kept: its block until it lands, then the bytes that
-- it found until it is replied to. No read has the number of an entry any more once that read was
-- replied to, or once the entry was a write's: the number is closed.
pub data ReadLife : Type 0 where
  NotBegun : ReadLife
  Begun : (block : ℕ) → ReadLife
  Landed : (bytes : Block) → ReadLife
  Closed : ReadLife

-- what the entry under a read's number does to that read: a read's entry is of the block that it
-- began with, and a write's closes the number
abbrev pub ReadLands : ReadLife → Entry → Kind → ReadLife → Type 0
ReadLands old entry Read new = (old ≡ Begun entry.block) × (new ≡ Landed entry.bytes)
ReadLands old entry (Write ticket) new = (old ≡ NotBegun) × (new ≡ Closed)
ReadLands old entry (Patch ticket from len) new = (old ≡ NotBegun) × (new ≡ Closed)

-- what an event does to the read of this number: its own take it one stage on, all others nothing
abbrev pub ReadStep : ℕ → ReadLife → Event → ReadLife → Type 0
ReadStep number old (BeginsRead other block) new =
    MatchBool (other == number) ((old ≡ NotBegun) × (new ≡ Begun block)) (new ≡ old)
ReadStep number old (BeginsWrite ticket block put) new = new ≡ old
ReadStep number old (Lands entry) new =
    MatchBool (entry.seq == number) (ReadLands old entry entry.kind new) (new ≡ old)
ReadStep number old (RepliesRead other bytes) new =
    MatchBool (other == number) ((old ≡ Landed bytes) × (new ≡ Closed)) (new ≡ old)
ReadStep number old (RepliesWrite ticket other) new = new ≡ old

-- the read of this number lives through the events, one after the other
abbrev pub ReadLives : ℕ → ReadLife → List Event → ReadLife → Type 0
ReadLives number old [] new = new ≡ old
ReadLives number old (event ∷ events) new =
    (mid : ReadLife) × ReadStep number old event mid × ReadLives number mid events new
