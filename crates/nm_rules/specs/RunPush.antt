-- A push of a run to a leg, in one call: why it is refused, and what it does.
use Rattle.std.specs.Prelude.{◌≡◌, ℕ, ◌+◌, ◌&&◌, Bool, true, false, not, if◌then◌else◌}
use Rattle.std.specs.Prelude.{List, [], ◌∷◌, length, Option, None, is_none}
use Rattle.std.specs.List.{list_any}
use Rattle.std.specs.Option.{option_and_then}
use Rattle.nm_replay.specs.declared.block.Block.{Block}
use Rattle.nm_replay.specs.declared.entry.Entry.{Entry}
use Rattle.nm_fanout.specs.declared.write_record.Record.{Record}
use Rattle.nm_fanout.specs.Record.{is_under_way, owes}
use Rattle.nm_fanout.specs.Records.{landed, reached}
use Rattle.nm_leg.specs.Leg.{LegType}
use Rattle.nm_rules.specs.declared.refusal.Refusal.{Refusal}
use Rattle.nm_rules.specs.declared.refusal.Refusal.TheVariants.{Stopped, NoTicket, NotOwed}
use Rattle.nm_rules.specs.Array.{written}
use Rattle.nm_rules.specs.Cause.{when, first_cause}
use Rattle.nm_replay.specs.Kept.{kept_with}
use Rattle.nm_rules.specs.Lost.{lost}
use Rattle.nm_rules.specs.Push.{lands_at, write_entry}
use Rattle.nm_rules.specs.RunCalls.{WritesRunAt}
use Rattle.nm_rules.specs.Runs.{AreOwed, find_run, of_run}
use Rattle.nm_rules.specs.State.{StripeState, is_last, next_number}

-- the conditions for a refusal of a push, in the order in which they are tested
abbrev pub push_run_rows : {L : Type 0} → StripeState L → ℕ → ℕ
    → List (Option Refusal)
push_run_rows stripe ticket leg =
    when stripe.stopped Stopped
    ∷ when (is_none (find_run ticket stripe.records)) NoTicket
    ∷ option_and_then (λ r. when (not (owes leg r)) NotOwed) (find_run ticket stripe.records)
    ∷ []

-- why the run of this ticket may not be pushed to this leg
abbrev pub push_run_cause : {L : Type 0} → StripeState L → ℕ → ℕ → Option Refusal
push_run_cause stripe ticket leg = first_cause (push_run_rows stripe ticket leg)

-- the blocks that the records of a run leave
abbrev pub written_by : List Record → List Block
written_by [] = []
written_by (r ∷ rs) = written r ∷ written_by rs

-- the entries of the writes of a run, from this number on
abbrev pub run_entries : ℕ → List Record → List Entry
run_entries next [] = []
run_entries next (r ∷ rs) = write_entry next r ∷ run_entries (next + 1) rs

-- the records after each of these has reached the leg
abbrev pub reach_each : ℕ → List Record → List Record → List Record
reach_each leg [] records = records
reach_each leg (r ∷ rs) records = reach_each leg rs (reached r.ticket leg records)

-- the records after each of these has reached the master, and so got its entry, from this number on
abbrev pub land_each : ℕ → ℕ → List Record → List Record → List Record
land_each leg next [] records = records
land_each leg next (r ∷ rs) records =
    land_each leg (next + 1) rs (landed r.ticket next (reached r.ticket leg records))

-- the stripe after a run has reached another leg than the master, or had its entries before
abbrev pub run_reached : {L : Type 0} → StripeState L → List L → List Record → ℕ → StripeState L
run_reached old legs rs leg =
    let records = reach_each leg rs old.records in
    record old {
      legs = legs;
      records = records;
      settling = old.settling && list_any is_under_way records;
    }

-- the stripe after a run has reached the master, and so got its entries
abbrev pub run_landed : {L : Type 0} → StripeState L → List L → List Record → ℕ → StripeState L
run_landed old legs rs leg =
    let records = land_each leg (next_number old) rs old.records in
    record old {
      legs = legs;
      records = records;
      kept = kept_with (run_entries (next_number old) rs) old.kept;
      total = old.total + length rs;
      settling = old.settling && list_any is_under_way records;
    }

-- whether the run gets its entries as it reaches this leg: as its first block does
abbrev pub run_lands : {L : Type 0} → ℕ → List Record → StripeState L → Bool
run_lands leg [] stripe = false
run_lands leg (r ∷ rs) stripe = lands_at leg r stripe

-- the stripe after a push of a run
abbrev pub after_push_run : {L : Type 0} → StripeState L → List L → List Record → ℕ
    → StripeState L
after_push_run old legs rs leg =
    if run_lands leg rs old then run_landed old legs rs leg else run_reached old legs rs leg

-- the run of this ticket may be pushed to the leg, whose one call went well or not: its records are
-- all those that name the ticket as their run
pub record CallsToPushRun {L : Type 0} (type : LegType L) (succeeded : Bool)
    (old : StripeState L) (legs : List L) (ticket leg : ℕ) : Type 0 where
  pub no_cause : push_run_cause old ticket leg ≡ None
  pub block : ℕ
  pub are : AreOwed ticket block leg (of_run ticket old.records) old.records
  pub writes : WritesRunAt type succeeded leg block
      (written_by (of_run ticket old.records)) old.legs legs

-- a push whose leg wrote all blocks
pub record PushesRun {L : Type 0} (type : LegType L) (old new : StripeState L)
    (ticket leg : ℕ) : Type 0 where
  pub called : CallsToPushRun type true old new.legs ticket leg
  pub after : new ≡ after_push_run old new.legs (of_run ticket old.records) leg

-- a push whose leg failed, and has gone out; the records stay
pub record LosesInPushRun {L : Type 0} (type : LegType L)
    (old new : StripeState L) (ticket leg : ℕ) : Type 0 where
  pub called : CallsToPushRun type false old new.legs ticket leg
  pub not_last : is_last leg old ≡ false
  pub after : new ≡ lost leg (record old { legs = new.legs })

-- a push whose leg failed, the last one in sync: the stripe stops, and the records stay as they are
pub record HaltsInPushRun {L : Type 0} (type : LegType L)
    (old new : StripeState L) (ticket leg : ℕ) : Type 0 where
  pub called : CallsToPushRun type false old new.legs ticket leg
  pub last : is_last leg old ≡ true
  pub after : new ≡ record old { legs = new.legs; stopped = true }
