-- What explained events say of one read: each stage comes once, in order, with the same values.
use Rattle.std.specs.Prelude.{◌≡◌, ℕ, List, ◌∷◌, ◌++◌}
use Rattle.nm_replay.specs.declared.block.Block.{Block}
use Rattle.nm_replay.specs.Events.{Event, BeginsRead, Lands, RepliesRead, entry_of_read}
use Rattle.nm_replay.specs.Explained.{Point, Explained, ExplainsRead, NothingExplains}

-- no entry of a read comes before its begin
abbrev pub NoReadEntryBeforeItsBegin : Type 0
NoReadEntryBeforeItsBegin =
    (number block other : ℕ) (bytes : Block) (earlier between later : List Event)
    → NothingExplains (earlier ++ Lands (entry_of_read number block bytes)
    ∷ (between ++ BeginsRead number other ∷ later))

-- no reply to a read comes before its entry
abbrev pub NoReadReplyBeforeItsEntry : Type 0
NoReadReplyBeforeItsEntry =
    (number block : ℕ) (bytes others : Block) (earlier between later : List Event)
    → NothingExplains (earlier ++ RepliesRead number others
    ∷ (between ++ Lands (entry_of_read number block bytes) ∷ later))

-- no read begins twice
abbrev pub NoSecondReadBegin : Type 0
NoSecondReadBegin =
    (number block other : ℕ) (earlier between later : List Event)
    → NothingExplains (earlier ++ BeginsRead number block
    ∷ (between ++ BeginsRead number other ∷ later))

-- no read has two entries
abbrev pub NoSecondReadEntry : Type 0
NoSecondReadEntry =
    (number block other : ℕ) (bytes others : Block) (earlier between later : List Event)
    → NothingExplains (earlier ++ Lands (entry_of_read number block bytes)
    ∷ (between ++ Lands (entry_of_read number other others) ∷ later))

-- no read is replied to twice
abbrev pub NoSecondReadReply : Type 0
NoSecondReadReply =
    (number : ℕ) (bytes others : Block) (earlier between later : List Event)
    → NothingExplains (earlier ++ RepliesRead number bytes
    ∷ (between ++ RepliesRead number others ∷ later))

-- a read lands on the block that it began with
abbrev pub ReadLandsAsItBegan : Type 0
ReadLandsAsItBegan =
    (from to : Point) (number block other : ℕ) (bytes : Block) (earlier between later : List Event)
    → Explained from to (earlier ++ BeginsRead number block
    ∷ (between ++ Lands (entry_of_read number other bytes) ∷ later))
    → other ≡ block

-- a read is replied to with the bytes of its entry
abbrev pub ReadRepliedWithItsBytes : Type 0
ReadRepliedWithItsBytes =
    (from to : Point) (number block : ℕ) (bytes others : Block) (earlier between later : List Event)
    → Explained from to (earlier ++ Lands (entry_of_read number block bytes)
    ∷ (between ++ RepliesRead number others ∷ later))
    → others ≡ bytes

-- a read that had not begun lands only after it began, on its block
abbrev pub ReadLandsAfterItsBegin : Type 0
ReadLandsAfterItsBegin =
    (number block : ℕ) (bytes : Block) (earlier later : List Event)
    → ExplainsRead number (earlier ++ Lands (entry_of_read number block bytes) ∷ later)
    → (before following : List Event) × (earlier ≡ before ++ BeginsRead number block ∷ following)

-- events in which a read began and then landed, with its own block and these bytes
pub record ReadTookEffect (number : ℕ) (bytes : Block) (events : List Event) : Type 0 where
  pub block : ℕ
  pub before : List Event
  pub between : List Event
  pub following : List Event
  pub split : events ≡ before ++ BeginsRead number block
      ∷ (between ++ Lands (entry_of_read number block bytes) ∷ following)

-- a read that had not begun is replied to only after it began and took effect
abbrev pub ReadRepliedAfterItsEntry : Type 0
ReadRepliedAfterItsEntry =
    (number : ℕ) (bytes : Block) (earlier later : List Event)
    → ExplainsRead number (earlier ++ RepliesRead number bytes ∷ later)
    → ReadTookEffect number bytes earlier
