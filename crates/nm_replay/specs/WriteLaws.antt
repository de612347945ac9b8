-- What explained events say of one write: each stage comes once, in order, with the same values.
use Rattle.std.specs.Prelude.{◌≡◌, ℕ, List, ◌∷◌, ◌++◌}
use Rattle.nm_replay.specs.declared.block.Block.{Block}
use Rattle.nm_replay.specs.Array.{Put, Span, put_of}
use Rattle.nm_replay.specs.Events.{Event, BeginsWrite, Lands, RepliesWrite, entry_of_write}
use Rattle.nm_replay.specs.Explained.{Point, Explained, ExplainsWrite, NothingExplains}

-- no entry of a write comes before its begin
abbrev pub NoWriteEntryBeforeItsBegin : Type 0
NoWriteEntryBeforeItsBegin =
    (ticket number block other : ℕ) (span : Span) (bytes : Block) (put : Put)
    (earlier between later : List Event)
    → NothingExplains (earlier ++ Lands (entry_of_write number ticket block span bytes)
    ∷ (between ++ BeginsWrite ticket other put ∷ later))

-- no reply to a write comes before its entry
abbrev pub NoWriteReplyBeforeItsEntry : Type 0
NoWriteReplyBeforeItsEntry =
    (ticket number block other : ℕ) (span : Span) (bytes : Block)
    (earlier between later : List Event)
    → NothingExplains (earlier ++ RepliesWrite ticket other
    ∷ (between ++ Lands (entry_of_write number ticket block span bytes) ∷ later))

-- no write begins twice
abbrev pub NoSecondWriteBegin : Type 0
NoSecondWriteBegin =
    (ticket block other : ℕ) (put others : Put) (earlier between later : List Event)
    → NothingExplains (earlier ++ BeginsWrite ticket block put
    ∷ (between ++ BeginsWrite ticket other others ∷ later))

-- no write has two entries
abbrev pub NoSecondWriteEntry : Type 0
NoSecondWriteEntry =
    (ticket number again block other : ℕ) (span spans : Span) (bytes others : Block)
    (earlier between later : List Event)
    → NothingExplains (earlier ++ Lands (entry_of_write number ticket block span bytes)
    ∷ (between ++ Lands (entry_of_write again ticket other spans others) ∷ later))

-- no write is replied to twice
abbrev pub NoSecondWriteReply : Type 0
NoSecondWriteReply =
    (ticket number again : ℕ) (earlier between later : List Event)
    → NothingExplains (earlier ++ RepliesWrite ticket number
    ∷ (between ++ RepliesWrite ticket again ∷ later))

-- a write lands on the block that it began with, and puts there what it began with
abbrev pub WriteLandsAsItBegan : Type 0
WriteLandsAsItBegan =
    (from to : Point) (ticket number block other : ℕ) (put : Put) (span : Span) (bytes : Block)
    (earlier between later : List Event)
    → Explained from to (earlier ++ BeginsWrite ticket block put
    ∷ (between ++ Lands (entry_of_write number ticket other span bytes) ∷ later))
    → (other ≡ block) × (put_of span bytes ≡ put)

-- a write is replied to with the number of its entry
abbrev pub WriteRepliedWithItsNumber : Type 0
WriteRepliedWithItsNumber =
    (from to : Point) (ticket number other block : ℕ) (span : Span) (bytes : Block)
    (earlier between later : List Event)
    → Explained from to (earlier ++ Lands (entry_of_write number ticket block span bytes)
    ∷ (between ++ RepliesWrite ticket other ∷ later))
    → other ≡ number

-- a write that had not begun lands only after it began, with its block and what it puts there
abbrev pub WriteLandsAfterItsBegin : Type 0
WriteLandsAfterItsBegin =
    (ticket number block : ℕ) (span : Span) (bytes : Block) (earlier later : List Event)
    → ExplainsWrite ticket (earlier ++ Lands (entry_of_write number ticket block span bytes)
    ∷ later)
    → (before following : List Event)
    × (earlier ≡ before ++ BeginsWrite ticket block (put_of span bytes) ∷ following)

-- events in which a write began and then landed, under this number, with its own block and what it
-- put there
pub record WriteTookEffect (ticket number : ℕ) (events : List Event) : Type 0 where
  pub block : ℕ
  pub span : Span
  pub bytes : Block
  pub before : List Event
  pub between : List Event
  pub following : List Event
  pub split : events ≡ before ++ BeginsWrite ticket block (put_of span bytes)
      ∷ (between ++ Lands (entry_of_write number ticket block span bytes) ∷ following)

-- a write that had not begun is replied to only after it began and took effect
abbrev pub WriteRepliedAfterItsEntry : Type 0
WriteRepliedAfterItsEntry =
    (ticket number : ℕ) (earlier later : List Event)
    → ExplainsWrite ticket (earlier ++ RepliesWrite ticket number ∷ later)
    → WriteTookEffect ticket number earlier
