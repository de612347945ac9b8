-- A begin of a run: why it may, what it keeps, and how it is explained.
use Rattle.std.proofs.Common.{◌≡◌, ℕ, ◌+◌, ◌%◌, ◌^◌, ◌<◌, ◌≤◌, ◌==◌, ◌&&◌, Bool, true, false, List, [], ◌∷◌, length, Option, None, Some, refl, sym, ap, ◌∙◌, subst, arith, cond, nat_lt}
use Rattle.std.specs.Option.{option_map}
use Rattle.std.proofs.lemmas.Bool.Decides.{nat_tests}
use Rattle.nm_replay.specs.Array.{Put}
use Rattle.nm_replay.specs.Events.{BeginsWrite, Event, marks_of}
use Rattle.nm_fanout.specs.declared.record_data.RecordData.{RecordData}
use Rattle.nm_fanout.specs.declared.write_record.Record.{Record}
use Rattle.nm_fanout.specs.Record.{is_under_way}
use Rattle.nm_fanout.specs.Records.{busy_among, busy_on, is_among, runs_in, unlanded}
use Rattle.nm_leg.specs.Leg.{LegType}
use Rattle.nm_regions.specs.declared.copy_place.CopyPlace.{CopyPlace}
use Rattle.nm_rules.specs.declared.refusal.Refusal.TheVariants.{Busy, Copying, Exhausted, Full, Settling, Stopped}
use Rattle.nm_rules.specs.Acts.{IsExplainedStep}
use Rattle.nm_rules.specs.Begin.{is_full}
use Rattle.nm_rules.specs.Invariant.{Keeps}
use Rattle.nm_rules.specs.RunBegin.{BeginsRun, after_begin_run, begin_run_cause, begin_run_rows, begins_of, meets_copy, puts_of}
use Rattle.nm_rules.specs.Runs.{is_exhausted_by}
use Rattle.nm_rules.specs.State.{Chunk, StripeState, next_number}
use Rattle.nm_rules.proofs.CauseLemmas.{below, map_off, none_holds, when_off}
use Rattle.nm_rules.proofs.RecordLemmas.{same}
use Rattle.nm_rules.proofs.RunBeginSteps.{MayBeginRun, RunDone, begin_each, run-begun}
use Rattle.nm_rules.proofs.RunBegunLemmas.{run-begun_so}
use Rattle.nm_rules.proofs.RunTargetsLemmas.{run-apart}

among-in : (first count b : ℕ) → first ≤ b → b < first + count → is_among first count b ≡ true
among-in first count b low high = grind (arith, nat_tests)

not-here : (first count b : ℕ) (r : Record) → first ≤ b → b < first + count → (is_among first count r.block && is_under_way r) ≡ false → ((r.block == b) && is_under_way r) ≡ false
not-here first count b r low high none =
    (elim (r.block == b) as (λ c. (r.block == b) ≡ c → (c && is_under_way r) ≡ false) [
      | true ↦ λ at.
          let among : is_among first count r.block ≡ true = subst (λ (n : ℕ). is_among first count n ≡ true) (sym (same r.block b at)) (among-in first count b low high) in
          sym (ap (λ (c : Bool). c && is_under_way r) among) ∙ none
      | false ↦ λ at. refl
    ]) refl

-- where no block of many is busy, none of them is
pub free-among : (first count b : ℕ) (rs : List Record) → first ≤ b → b < first + count → busy_among first count rs ≡ None → busy_on b rs ≡ None
free-among first count b [] low high none = refl
free-among first count b (r ∷ rs) low high none =
    (elim (is_among first count r.block && is_under_way r) as (λ c. (is_among first count r.block && is_under_way r) ≡ c → cond c (Some r) (busy_among first count rs) ≡ None → busy_on b (r ∷ rs) ≡ None) [
      | true ↦ λ is some. absurd (let e : ⊥ = cc in e)
      | false ↦ λ is rest.
          ap (λ (c : Bool). cond c (Some r) (busy_on b rs)) (not-here first count b r low high is) ∙ free-among first count b rs low high rest
    ]) refl none

-- a run that is not refused for a copy meets none
apart-of : (size first count : ℕ) (copy : Option CopyPlace) (chunk : Option Chunk) → cond (meets_copy size copy chunk first count) (option_map (λ (c : CopyPlace). Copying c.leg) copy) None ≡ None → meets_copy size copy chunk first count ≡ false
apart-of size first count None chunk none = refl
apart-of size first count (Some c) chunk none =
    (elim (meets_copy size (Some c) chunk first count) as (λ b. cond b (Some (Copying c.leg)) None ≡ None → b ≡ false) [
      | true ↦ λ e. cc
      | false ↦ λ e. refl
    ]) none

pub at_most : (a b : ℕ) → nat_lt a b ≡ false → b ≤ a
at_most a b h = grind (arith, nat_tests)

-- a run may begin, and meets no copy
pub record MayBegin {L : Type 0} (stripe : StripeState L) (block count : ℕ) : Type 0 where
  pub may : MayBeginRun stripe.tickets stripe block count
  pub apart : meets_copy stripe.place.region stripe.copy stripe.chunk block count ≡ false

pub may_begin_run : {L : Type 0} (stripe : StripeState L) (block count : ℕ) → begin_run_cause stripe block count ≡ None → MayBegin stripe block count
may_begin_run stripe block count none =
    let rows = none_holds (begin_run_rows stripe block count) none in
    let free = map_off (λ (r : Record). Busy r.run) (busy_among block count stripe.records) rows.1.1.0 in
    let apart = apart-of stripe.place.region block count stripe.copy stripe.chunk rows.1.1.1.0 in
    record {
      may = record {
        runs = when_off stripe.stopped Stopped rows.0;
        not_settling = when_off stripe.settling Settling rows.1.0;
        free = λ b low high. free-among block count b stripe.records low high free;
        not_copied_now = λ b low high. run-apart stripe.place.region stripe.copy stripe.chunk block count b apart low high;
        low = omega arith;
        few = λ is. below 256 (runs_in stripe.records) (when_off (is_full stripe) Full rows.1.1.1.1.0);
        below = at_most (2 ^ 63) (next_number stripe + unlanded stripe.records + count) (when_off (is_exhausted_by count stripe) Exhausted rows.1.1.1.1.1.0);
      };
      apart = apart;
    }

-- a begin of at least one block is one of each
each-begun : {L : Type 0} (type : LegType L) (ds : List RecordData) (old : StripeState L) (block : ℕ) → 0 < length ds → meets_copy old.place.region old.copy old.chunk block (length ds) ≡ false → block % old.place.region + length ds ≤ old.place.region
    → begin_each old.tickets old block ds ≡ after_begin_run old block ds
each-begun type [] old block some apart short = absurd (let e : ⊥ = omega (arith, some) in e)
each-begun type (d ∷ ds) old block some apart short = run-begun_so type old.tickets ds d old block apart short

marks-begins : (ticket block : ℕ) (puts : List Put) → marks_of (begins_of ticket block puts) ≡ begins_of ticket block puts
marks-begins ticket block [] = refl
marks-begins ticket block (put ∷ puts) = ap (λ (es : List Event). BeginsWrite ticket block put ∷ es) (marks-begins (ticket + 1) (block + 1) puts)

module _ {L : Type 0} (type : LegType L) (old new : StripeState L) (block : ℕ) (ds : List RecordData) (ticket : ℕ) (k : Keeps type old) (b : BeginsRun old new block ds ticket) where
  begins : RunDone type old new (begins_of ticket block (puts_of ds))
  begins =
      let may = may_begin_run old block (length ds) b.no_cause in
      subst (λ (t : ℕ). RunDone type old new (begins_of t block (puts_of ds))) (sym b.next)
      (subst (λ (s : StripeState L). RunDone type old s (begins_of old.tickets block (puts_of ds))) (each-begun type ds old block b.fits.some may.apart b.fits.one_region ∙ sym b.after)
      (run-begun type old.tickets ds old block k may.may b.fits.inside b.whole))

  -- a begin of a run keeps what every stripe keeps
  pub begins_run-keeps : Keeps type new
  begins_run-keeps = begins.keeps

  pub begins_run-explained : IsExplainedStep type.model (begins_of ticket block (puts_of ds)) old new
  begins_run-explained = record { events = begins_of ticket block (puts_of ds); marked = marks-begins ticket block (puts_of ds); acts = begins.acts }
