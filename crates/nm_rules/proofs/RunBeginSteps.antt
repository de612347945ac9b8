-- A begin of a run is a begin of each of its blocks, in order.
use Rattle.std.proofs.Common.{◌≡◌, ◌≢◌, ℕ, suc, ◌+◌, ◌^◌, ◌<◌, ◌≤◌, ◌==◌, ◌&&◌, Bool, true, false, List, [], ◌∷◌, ◌++◌, length, None, Some, refl, sym, ap, ◌∙◌, subst, arith, cond, ne_eqb}
use Rattle.nm_replay.specs.Array.{Entire, Span}
use Rattle.nm_replay.specs.Events.{BeginsWrite, Event}
use Rattle.nm_replay.specs.Events.{write_kind}
use Rattle.nm_replay.specs.History.{Fits}
use Rattle.nm_fanout.proofs.Landing.{unlanded-with_new}
use Rattle.nm_fanout.specs.declared.record_data.RecordData.{RecordData}
use Rattle.nm_fanout.specs.declared.write_record.Record.{Record}
use Rattle.nm_fanout.specs.Record.{begun, is_under_way}
use Rattle.nm_fanout.specs.RecordData.{LiesInside, bytes_of, span_of}
use Rattle.nm_fanout.specs.Records.{busy_on, runs_in, unlanded}
use Rattle.nm_leg.specs.Leg.{LegType, block_of}
use Rattle.nm_regions.specs.Table.{targets}
use Rattle.nm_rules.specs.Acts.{Acts}
use Rattle.nm_rules.specs.Array.{put_by, stripe_array}
use Rattle.nm_rules.specs.Begin.{after_begin}
use Rattle.nm_rules.specs.Invariant.{Keeps}
use Rattle.nm_rules.specs.RunBegin.{AreWhole, begins_of, puts_of}
use Rattle.nm_rules.specs.State.{StripeState, is_copied_now, next_number, table}
use Rattle.nm_rules.proofs.ActsLemmas.{acts-append, acts-none}
use Rattle.nm_rules.proofs.BeginLemmas.{MayBegin, begin-acts, begin-keeps, new_record}
use Rattle.nm_rules.proofs.ArrayLemmas.{length-array}
use Rattle.nm_rules.proofs.SpanLemmas.{RecordFits}
use Rattle.nm_rules.proofs.StateLemmas.{master_inside}

-- a block that is busy in neither of two lists is busy in none
pub busy-append : (b : ℕ) (rs qs : List Record) → busy_on b rs ≡ None → busy_on b qs ≡ None → busy_on b (rs ++ qs) ≡ None
busy-append b [] qs none also = also
busy-append b (r ∷ rs) qs none also =
    (elim ((r.block == b) && is_under_way r) as (λ c. cond c (Some r) (busy_on b rs) ≡ None → cond c (Some r) (busy_on b (rs ++ qs)) ≡ None) [
      | true ↦ λ some. absurd (let e : ⊥ = cc in e)
      | false ↦ λ rest. busy-append b rs qs rest also
    ]) none

-- a record on another block makes a block not busy
pub busy-other : (b : ℕ) (r : Record) (rs : List Record) → r.block ≢ b → busy_on b rs ≡ None → busy_on b (r ∷ rs) ≡ None
busy-other b r rs other none = ap (λ (c : Bool). cond (c && is_under_way r) (Some r) (busy_on b rs)) (ne_eqb r.block b other) ∙ none

-- a run of so many blocks may begin at this block
pub record MayBeginRun {L : Type 0} (run : ℕ) (stripe : StripeState L) (block count : ℕ) : Type 0 where
  pub runs : stripe.stopped ≡ false
  pub not_settling : stripe.settling ≡ false
  pub free : (b : ℕ) → block ≤ b → b < block + count → busy_on b stripe.records ≡ None
  pub not_copied_now : (b : ℕ) → block ≤ b → b < block + count → is_copied_now b stripe ≡ false
  pub low : run ≤ stripe.tickets
  pub few : run ≡ stripe.tickets → runs_in stripe.records < 256
  pub below : next_number stripe + unlanded stripe.records + count ≤ 2 ^ 63

-- the stripe after writes of these data have begun from this block on, in order
abbrev pub begin_each : {L : Type 0} → ℕ → StripeState L → ℕ → List RecordData → StripeState L
begin_each run old block [] = old
begin_each run old block (d ∷ ds) = begin_each run (after_begin old run block d) (block + 1) ds

abbrev begun_record : {L : Type 0} → ℕ → StripeState L → ℕ → RecordData → Record
begun_record run old block d = begun run old.tickets block d (targets block (table old))

-- the next block of a run may begin
may-next : {L : Type 0} (run : ℕ) (old : StripeState L) (block : ℕ) (d : RecordData) (count : ℕ) → MayBeginRun run old block (suc count) → MayBeginRun run (after_begin old run block d) (block + 1) count
may-next run old block d count m = record {
  runs = m.runs;
  not_settling = m.not_settling;
  free = λ b low high. busy-append b old.records (begun_record run old block d ∷ []) (m.free b (omega (arith, low)) (omega (arith, high))) (busy-other b (begun_record run old block d) [] (λ e. omega (arith, e, low)) refl);
  not_copied_now = λ b low high. m.not_copied_now b (omega (arith, low)) (omega (arith, high));
  low = omega (arith, m.low);
  few = λ is. absurd (let e : ⊥ = omega (arith, is, m.low) in e);
  below = omega (arith, m.below, unlanded-with_new (begun_record run old block d) old.records refl);
}

may-first : {L : Type 0} (run : ℕ) (old : StripeState L) (block count : ℕ) → MayBeginRun run old block (suc count) → MayBegin old run block
may-first run old block count m = record {
  runs = m.runs;
  not_settling = m.not_settling;
  free = m.free block (omega arith) (omega arith);
  not_copied_now = m.not_copied_now block (omega arith) (omega arith);
  few = m.few;
  below = omega (arith, m.below);
}

-- what a step on a run leaves, of which no leg need be honest
pub record RunDone {L : Type 0} (type : LegType L) (old new : StripeState L) (events : List Event) : Type 0 where
  pub keeps : Keeps type new
  pub acts : Acts type.model old new events

-- whole data fit any array that has the block
fits-whole : {L : Type 0} (type : LegType L) (run : ℕ) (old : StripeState L) (block : ℕ) (d : RecordData) → span_of d ≡ Entire → block < length (stripe_array type.model old) → RecordFits (begun_record run old block d) (stripe_array type.model old)
fits-whole type run old block d whole inside = subst (λ (s : Span). Fits (write_kind old.tickets s) block (block_of (bytes_of d)) (stripe_array type.model old)) (sym whole) inside

lies-whole : (d : RecordData) → span_of d ≡ Entire → LiesInside (span_of d)
lies-whole d whole = subst (λ s. LiesInside s) (sym whole) tt

pub run-begun : {L : Type 0} (type : LegType L) (run : ℕ) (ds : List RecordData) (old : StripeState L) (block : ℕ)
    → Keeps type old → MayBeginRun run old block (length ds) → block + length ds ≤ old.place.blocks → AreWhole ds
    → RunDone type old (begin_each run old block ds) (begins_of old.tickets block (puts_of ds))
run-begun type run [] old block k m inside whole = record { keeps = k; acts = acts-none type.model old k.numbers.most }
run-begun type run (d ∷ ds) old block k m inside whole =
    let may = may-first run old block (length ds) m in
    let keeps = begin-keeps type old run block d k may (omega (arith, inside)) whole.0 (lies-whole d whole.1) (λ is_honest. fits-whole type run old block d whole.1 (omega (arith, inside, length-array type.model old, k.legs.lengths old.master (master_inside type.model old k.legs)))) in
    let rest = run-begun type run ds (after_begin old run block d) (block + 1) keeps (may-next run old block d (length ds) m) (omega (arith, inside)) whole.2 in
    record {
      keeps = rest.keeps;
      acts = acts-append type.model old (after_begin old run block d) (begin_each run old block (d ∷ ds)) (BeginsWrite old.tickets block (put_by (new_record type old run block d)) ∷ []) (begins_of (old.tickets + 1) (block + 1) (puts_of ds))
          (begin-acts type old run block d k) rest.acts;
    }
