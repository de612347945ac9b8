-- A read of a run by one call of a leg: which leg it takes, why it is refused, and what it does.
use Rattle.std.specs.Prelude.{◌≡◌, ℕ, ◌+◌, ◌-◌, Bool, true, false}
use Rattle.std.specs.Prelude.{List, [], ◌∷◌, length, Option, None, Some}
use Rattle.nm_replay.specs.declared.block.Block.{Block}
use Rattle.nm_replay.specs.declared.entry.Entry.{Entry}
use Rattle.nm_replay.specs.Events.{BeginsRead, Event, Lands, RepliesRead, entry_of_read}
use Rattle.nm_leg.specs.Leg.{LegType}
use Rattle.nm_rules.specs.declared.refusal.Refusal.{Refusal}
use Rattle.nm_rules.specs.declared.refusal.Refusal.TheVariants.{Settling, Stopped, Exhausted}
use Rattle.nm_rules.specs.Cause.{when, first_cause}
use Rattle.nm_replay.specs.Kept.{kept_with}
use Rattle.nm_rules.specs.Lost.{lost}
use Rattle.nm_rules.specs.Read.{read_leg, turn_after}
use Rattle.nm_rules.specs.RunCalls.{ReadsRunAt}
use Rattle.nm_rules.specs.Runs.{EntryNames, FitsRun, is_exhausted_by}
use Rattle.nm_rules.specs.State.{StripeState, is_last, next_number}

-- the conditions for a refusal of a read of so many blocks, in the order in which they are tested
abbrev pub read_run_rows : {L : Type 0} → StripeState L → ℕ → List (Option Refusal)
read_run_rows stripe count =
    when stripe.stopped Stopped
    ∷ when stripe.settling Settling
    ∷ when (is_exhausted_by count stripe) Exhausted
    ∷ []

-- why so many blocks may not be read
abbrev pub read_run_cause : {L : Type 0} → StripeState L → ℕ → Option Refusal
read_run_cause stripe count = first_cause (read_run_rows stripe count)

-- the last of so many blocks from this one on
abbrev pub last_block : ℕ → ℕ → ℕ
last_block block count = block + (count - 1)

-- the entries of the reads of a run, from this number on
abbrev pub read_entries : ℕ → ℕ → List Block → List Entry
read_entries number block [] = []
read_entries number block (b ∷ bs) =
    entry_of_read number block b ∷ read_entries (number + 1) (block + 1) bs

-- the events of the reads of a run: each begins, finds its block and is replied to
abbrev pub reads_of : ℕ → ℕ → List Block → List Event
reads_of number block [] = []
reads_of number block (b ∷ bs) =
    BeginsRead number block ∷ (Lands (entry_of_read number block b) ∷ (RepliesRead number b
    ∷ reads_of (number + 1) (block + 1) bs))

-- the begins and replies among them
abbrev pub marks_of_reads : ℕ → ℕ → List Block → List Event
marks_of_reads number block [] = []
marks_of_reads number block (b ∷ bs) =
    BeginsRead number block ∷ (RepliesRead number b
    ∷ marks_of_reads (number + 1) (block + 1) bs)

-- the stripe after a read found these blocks from this one on, and its call left these legs
abbrev pub after_read_run : {L : Type 0} → StripeState L → List L → ℕ → List Block → ℕ
    → StripeState L
after_read_run old legs block found turn = record old {
  legs = legs;
  turn = turn;
  kept = kept_with (read_entries (next_number old) block found) old.kept;
  total = old.total + length found;
}

-- a run may be read, and the one call of the leg that a read of its last block takes went well or
-- not: what is current there is current at all of its blocks
pub record CallsToReadRun {L : Type 0} (type : LegType L) (succeeded : Bool) (old : StripeState L)
    (legs : List L) (block leg : ℕ) (found : List Block) : Type 0 where
  pub no_cause : read_run_cause old (length found) ≡ None
  pub fits : FitsRun old.place block (length found)
  pub leg_is : read_leg (last_block block (length found)) old ≡ Some leg
  pub reads : ReadsRunAt type succeeded leg block found old.legs legs

-- a read: the leg's call gives the blocks, and the history gets the entries that are named
pub record FindsRun {L : Type 0} (type : LegType L) (old new : StripeState L)
    (block : ℕ) (found : List Block) (names : EntryNames) : Type 0 where
  pub leg : ℕ
  pub called : CallsToReadRun type true old new.legs block leg found
  pub named : names ≡ record {
    stripe = old.place.stripe;
    block = block;
    number = next_number old;
    count = length found;
  }
  pub after : new
      ≡ after_read_run old new.legs block found (turn_after (last_block block (length found)) old)

-- a read whose leg failed, and has gone out
pub record LosesInReadRun {L : Type 0} (type : LegType L) (old new : StripeState L)
    (block leg : ℕ) (found : List Block) : Type 0 where
  pub called : CallsToReadRun type false old new.legs block leg found
  pub not_last : is_last leg old ≡ false
  pub after : new ≡ lost leg (record old { legs = new.legs })

-- a read whose leg failed, the last one in sync: its count of faults changed, and nothing else
pub record FailsInReadRun {L : Type 0} (type : LegType L) (old new : StripeState L)
    (block : ℕ) (found : List Block) : Type 0 where
  pub leg : ℕ
  pub called : CallsToReadRun type false old new.legs block leg found
  pub last : is_last leg old ≡ true
  pub after : new ≡ record old { legs = new.legs }
