-- The records of a run. Each block has a record of its own, and says to which run it belongs: `run`
-- gives the first ticket of a record's run.
use Rattle.std.specs.Prelude.{◌≡◌, ℕ, ◌+◌, ◌%◌, ◌<◌, ◌≤◌, ◌^◌, ◌==◌, Bool, true, false}
use Rattle.std.specs.Prelude.{List, [], ◌∷◌, filter, find, nat_lt, Option, Some}
use Rattle.nm_fanout.specs.declared.write_record.Record.{Record}
use Rattle.nm_fanout.specs.Record.{is_under_way, owes}
use Rattle.nm_fanout.specs.Records.{find_record, unlanded}
use Rattle.nm_rules.specs.declared.at.At.{At}
use Rattle.nm_rules.specs.State.{StripeState, next_number}

-- so many blocks from this one on are a run: at most 128, in one region of the stripe
pub record FitsRun (place : At) (block count : ℕ) : Type 0 where
  pub some : 0 < count
  pub most : count ≤ 128
  pub inside : block + count ≤ place.blocks
  pub one_region : block % place.region + count ≤ place.region

-- the entries of a run: the stripe, the first block there, the first number, and how many they are
pub record EntryNames : Type 0 where
  pub stripe : ℕ
  pub block : ℕ
  pub number : ℕ
  pub count : ℕ

-- the records of the run that began with this ticket
abbrev pub of_run : ℕ → List Record → List Record
of_run ticket records = filter (λ r. r.run == ticket) records

-- the first of them
abbrev pub find_run : ℕ → List Record → Option Record
find_run ticket records = find (λ r. r.run == ticket) records

-- no so many numbers below 2^63 are left, but for those of the writes that have no entry yet
abbrev pub is_exhausted_by : {L : Type 0} → ℕ → StripeState L → Bool
is_exhausted_by count stripe =
    nat_lt (2 ^ 63) (next_number stripe + unlanded stripe.records + count)

-- records of blocks and tickets that follow one another from these on; each owes the leg
abbrev pub AreOwed : ℕ → ℕ → ℕ → List Record → List Record → Type 0
AreOwed ticket block leg [] records = Unit {0}
AreOwed ticket block leg (r ∷ rs) records =
    (r.ticket ≡ ticket) × (r.block ≡ block) × (find_record r.ticket records ≡ Some r)
    × (owes leg r ≡ true) × AreOwed (ticket + 1) (block + 1) leg rs records

-- records of blocks, tickets and entries that follow one another from these on; none is under way
abbrev pub AreFinished : ℕ → ℕ → ℕ → List Record → List Record → Type 0
AreFinished ticket block number [] records = Unit {0}
AreFinished ticket block number (r ∷ rs) records =
    (r.ticket ≡ ticket) × (r.block ≡ block) × (find_record r.ticket records ≡ Some r)
    × (is_under_way r ≡ false) × (r.entry ≡ Some number)
    × AreFinished (ticket + 1) (block + 1) (number + 1) rs records
