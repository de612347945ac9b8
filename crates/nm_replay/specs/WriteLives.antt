-- The life of a write: it begins, lands under a number, and is replied to with that number.
use Rattle.std.specs.Prelude.{◌≡◌, ℕ, ◌==◌, List, [], ◌∷◌, MatchBool}
use Rattle.nm_replay.specs.declared.entry.Kind.{Kind}
use Rattle.nm_replay.specs.declared.entry.Kind.TheVariants.{Read, Write, Patch}
use Rattle.nm_replay.specs.declared.entry.Entry.{Entry}
use Rattle.nm_replay.specs.Array.{Put, Span, Entire, Piece, put_of}
use Rattle.nm_replay.specs.Events.{Event, BeginsRead, BeginsWrite, Lands, RepliesRead, RepliesWrite}

-- How far a write is. What it will still need is kept: its block and what it puts there until it
-- lands, then the number that it landed under until it is replied to.
pub data WriteLife : Type 0 where
  NotBegun : WriteLife
  Begun : (block : ℕ) (put : Put) → WriteLife
  Landed : (number : ℕ) → WriteLife
  Replied : WriteLife

-- the entry of a write with this ticket and span lands: it is this write's only if the tickets are
-- the same; then the write began with the entry's block and what the entry put, and has landed now
abbrev pub LandsAs : ℕ → WriteLife → Entry → ℕ → Span → WriteLife → Type 0
LandsAs ticket old entry other span new =
    MatchBool (other == ticket)
    ((old ≡ Begun entry.block (put_of span entry.bytes)) × (new ≡ Landed entry.seq))
    (new ≡ old)

-- what an entry of this kind does to the write of this ticket
abbrev pub WriteLands : ℕ → WriteLife → Entry → Kind → WriteLife → Type 0
WriteLands ticket old entry Read new = new ≡ old
WriteLands ticket old entry (Write other) new = LandsAs ticket old entry other Entire new
WriteLands ticket old entry (Patch other from len) new =
    LandsAs ticket old entry other (Piece from len) new

-- what an event does to the write of this ticket: its own take it one stage on, all others nothing
abbrev pub WriteStep : ℕ → WriteLife → Event → WriteLife → Type 0
WriteStep ticket old (BeginsRead number block) new = new ≡ old
WriteStep ticket old (BeginsWrite other block put) new =
    MatchBool (other == ticket) ((old ≡ NotBegun) × (new ≡ Begun block put)) (new ≡ old)
WriteStep ticket old (Lands entry) new = WriteLands ticket old entry entry.kind new
WriteStep ticket old (RepliesRead number bytes) new = new ≡ old
WriteStep ticket old (RepliesWrite other number) new =
    MatchBool (other == ticket) ((old ≡ Landed number) × (new ≡ Replied)) (new ≡ old)

-- the write of this ticket lives through the events, one after the other
abbrev pub WriteLives : ℕ → WriteLife → List Event → WriteLife → Type 0
WriteLives ticket old [] new = new ≡ old
WriteLives ticket old (event ∷ events) new =
    (mid : WriteLife) × WriteStep ticket old event mid × WriteLives ticket mid events new
