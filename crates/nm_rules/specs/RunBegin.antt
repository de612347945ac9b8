-- A begin of a run of whole blocks: why it is refused, and what it does.
use Rattle.std.specs.Prelude.{◌≡◌, ℕ, ◌+◌, ◌&&◌, Bool, false, nat_lt, map, length}
use Rattle.std.specs.Prelude.{List, [], ◌∷◌, ◌++◌, Option, None, Some, if◌then◌else◌}
use Rattle.std.specs.Option.{option_map}
use Rattle.nm_replay.specs.Array.{Entire, Put, put_of}
use Rattle.nm_replay.specs.Events.{BeginsWrite, Event}
use Rattle.nm_fanout.specs.declared.record_data.RecordData.{RecordData}
use Rattle.nm_fanout.specs.declared.write_record.Record.{Record}
use Rattle.nm_fanout.specs.Record.{begun}
use Rattle.nm_fanout.specs.RecordData.{FillsBlock, bytes_of, span_of}
use Rattle.nm_fanout.specs.Records.{busy_among}
use Rattle.nm_leg.specs.Leg.{block_of}
use Rattle.nm_regions.specs.declared.copy_place.CopyPlace.{CopyPlace}
use Rattle.nm_regions.specs.LegFlags.{marked_if_out}
use Rattle.nm_regions.specs.Table.{region_of, targets}
use Rattle.nm_rules.specs.declared.refusal.Refusal.{Refusal}
use Rattle.nm_rules.specs.declared.refusal.Refusal.TheVariants.{Busy, Copying, Settling, Full}
use Rattle.nm_rules.specs.declared.refusal.Refusal.TheVariants.{Stopped, Exhausted}
use Rattle.nm_rules.specs.Begin.{is_full}
use Rattle.nm_rules.specs.Cause.{when, first_cause}
use Rattle.nm_rules.specs.Runs.{FitsRun, is_exhausted_by}
use Rattle.nm_rules.specs.State.{Chunk, StripeState, copy_start, table}

-- how many blocks an open chunk has; none where none is open
abbrev pub chunk_length : Option Chunk → ℕ
chunk_length None = 0
chunk_length (Some chunk) = chunk.length

-- whether a copy is open, and some of so many blocks lie in its open chunk or on both sides of its
-- cursor, for regions of this size
abbrev pub meets_copy : ℕ → Option CopyPlace → Option Chunk → ℕ → ℕ → Bool
meets_copy size None chunk first count = false
meets_copy size (Some copy) chunk first count =
    nat_lt (copy_start size copy) (first + count)
    && nat_lt first (copy_start size copy + chunk_length chunk)

-- the copy's leg, where the run meets the copy
abbrev pub copying_run : {L : Type 0} → ℕ → ℕ → StripeState L → Option Refusal
copying_run first count stripe =
    if meets_copy stripe.place.region stripe.copy stripe.chunk first count
    then option_map (λ c. Copying c.leg) stripe.copy else None

-- the conditions for a refusal of a begin on so many blocks, in the order in which they are tested
abbrev pub begin_run_rows : {L : Type 0} → StripeState L → ℕ → ℕ
    → List (Option Refusal)
begin_run_rows stripe first count =
    when stripe.stopped Stopped
    ∷ when stripe.settling Settling
    ∷ option_map (λ r. Busy r.run) (busy_among first count stripe.records)
    ∷ copying_run first count stripe
    ∷ when (is_full stripe) Full
    ∷ when (is_exhausted_by count stripe) Exhausted
    ∷ []

-- why a run of so many blocks may not begin
abbrev pub begin_run_cause : {L : Type 0} → StripeState L → ℕ → ℕ
    → Option Refusal
begin_run_cause stripe first count = first_cause (begin_run_rows stripe first count)

-- each of the data fills a block whole
abbrev pub AreWhole : List RecordData → Type 0
AreWhole [] = Unit {0}
AreWhole (d ∷ ds) = FillsBlock d × (span_of d ≡ Entire) × AreWhole ds

-- the records of the blocks of a run that begins: they owe the same legs
abbrev pub begun_each : ℕ → ℕ → ℕ → List Bool → List RecordData → List Record
begun_each run ticket block owed [] = []
begun_each run ticket block owed (d ∷ ds) =
    begun run ticket block d owed ∷ begun_each run (ticket + 1) (block + 1) owed ds

-- what each of the data puts into its block
abbrev pub puts_of : List RecordData → List Put
puts_of ds = map (λ d. put_of (span_of d) (block_of (bytes_of d))) ds

-- the begins of writes that put these, from this ticket and block on
abbrev pub begins_of : ℕ → ℕ → List Put → List Event
begins_of ticket block [] = []
begins_of ticket block (put ∷ puts) =
    BeginsWrite ticket block put ∷ begins_of (ticket + 1) (block + 1) puts

-- the stripe after a run has begun: its blocks have the next tickets and no entries, owe each leg
-- that is current at the first, and their region falls behind on each leg that is out
abbrev pub after_begin_run : {L : Type 0} → StripeState L → ℕ → List RecordData → StripeState L
after_begin_run old block ds = record old {
  flags = map (marked_if_out (region_of block (table old))) old.flags;
  records = old.records
      ++ begun_each old.tickets old.tickets block (targets block (table old)) ds;
  tickets = old.tickets + length ds;
}

-- a begin of a run of these data from this block on, under this ticket; no leg is called
pub record BeginsRun {L : Type 0} (old new : StripeState L) (block : ℕ)
    (ds : List RecordData) (ticket : ℕ) : Type 0 where
  pub no_cause : begin_run_cause old block (length ds) ≡ None
  pub fits : FitsRun old.place block (length ds)
  pub whole : AreWhole ds
  pub next : ticket ≡ old.tickets
  pub after : new ≡ after_begin_run old block ds
