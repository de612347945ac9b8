-- A read of a run: its leg serves each of its blocks; what the read keeps, finds and leaves in one
-- piece. One whose leg failed is a failed read of its last block.
use Rattle.std.proofs.Common.{◌≡◌, ℕ, ◌+◌, ◌-◌, ◌/◌, ◌%◌, ◌^◌, ◌<◌, ◌≤◌, ◌==◌, ◌&&◌, ◌||◌, Bool, true, false, IsTrue, List, [], ◌∷◌, length, Option, None, Some, refl, sym, ap, ◌∙◌, subst, arith, nat_lt, nat_le, slice_get}
use Rattle.std.specs.Option.{option_or}
use Rattle.std.proofs.lemmas.Bool.Decides.{nat_tests}
use Rattle.nm_replay.specs.declared.block.Block.{Block}
use Rattle.nm_replay.specs.Array.{Array}
use Rattle.nm_replay.specs.Events.{BeginsRead, Event, RepliesRead, entry_of_read, marks_of}
use Rattle.nm_fanout.specs.Records.{unlanded}
use Rattle.nm_leg.specs.Leg.{HoldsRun, LegType, block_of}
use Rattle.nm_regions.specs.declared.copy_place.CopyPlace.{CopyPlace}
use Rattle.nm_regions.specs.Table.{has_copied, has_region}
use Rattle.nm_regions.specs.Table as regions
use Rattle.nm_rules.specs.declared.refusal.Refusal.{Refusal}
use Rattle.nm_rules.specs.declared.refusal.Refusal.TheVariants.{Exhausted, Settling, Stopped}
use Rattle.nm_rules.specs.Acts.{IsExplainedStep}
use Rattle.nm_rules.specs.Array.{contents_of, stripe_array}
use Rattle.nm_rules.specs.Cause.{when}
use Rattle.nm_rules.specs.Invariant.{Keeps}
use Rattle.nm_replay.specs.Kept.{KeptEntries, kept_with}
use Rattle.nm_rules.specs.Read.{FailsInRead, LosesInRead, read_cause, turn_after}
use Rattle.nm_rules.specs.RunCalls.{ReadsRunAt}
use Rattle.nm_rules.specs.RunRead.{FailsInReadRun, FindsRun, LosesInReadRun, after_read_run, last_block, marks_of_reads, read_entries, read_run_cause, read_run_rows, reads_of}
use Rattle.nm_rules.specs.Runs.{EntryNames, is_exhausted_by}
use Rattle.nm_rules.specs.State.{StripeState, is_current, is_exhausted, is_quiet, next_number, table}
use Rattle.nm_rules.proofs.CauseLemmas.{none_holds, when_off}
use Rattle.nm_rules.proofs.KeptLemmas.{kept-append}
use Rattle.nm_rules.proofs.LegLemmas.{calls-before}
use Rattle.nm_rules.proofs.ReadLegLemmas.{FromCurrent, FromMaster, ReadFrom, from_holds, read_from}
use Rattle.nm_rules.proofs.ReadLemmas.{after_read_one, turn-below}
use Rattle.nm_rules.proofs.RecordLemmas.{both}
use Rattle.nm_rules.proofs.RunBeginLemmas.{at_most}
use Rattle.nm_rules.proofs.RunCallLemmas.{failed-read}
use Rattle.nm_rules.proofs.RunReadSteps.{AllFrom, MayReadRun, RunRead, read_each, run-read}
use Rattle.nm_rules.proofs.RunTargetsLemmas.{same-region}

-- where a copy has passed a place it has passed those before
passed-before : (leg region early late : ℕ) (copy : Option CopyPlace) → early ≤ late → has_copied leg region late copy ≡ true → has_copied leg region early copy ≡ true
passed-before leg region early late None low is = is
passed-before leg region early late (Some copy) low is =
    let own = both ((copy.leg == leg) && (copy.region == region)) (nat_lt late copy.cursor) is in
    let late_is : nat_lt late copy.cursor ≡ true = own.1 in
    let before : nat_lt early copy.cursor ≡ true = grind (arith, nat_tests) in
    ap (λ (b : Bool). b && nat_lt early copy.cursor) own.0 ∙ before

or-then : (a x y : Bool) → (x ≡ true → y ≡ true) → (a || x) ≡ true → (a || y) ≡ true
or-then true x y follows is = refl
or-then false x y follows is = follows is

module _ {L : Type 0} (type : LegType L) (s : StripeState L) (leg block count i : ℕ) (below : i < count) (short : block % s.place.region + count ≤ s.place.region) where
  abbrev size : ℕ
  size = s.place.region

  here : ((block + i) / size ≡ block / size) × ((block + i) % size ≡ block % size + i)
  here = same-region size block i (omega (arith, below, short))

  there : ((block + (count - 1)) / size ≡ block / size) × ((block + (count - 1)) % size ≡ block % size + (count - 1))
  there = same-region size block (count - 1) (omega (arith, below, short))

  -- a leg that is current at the run's last block is so at each
  current-in : is_current leg (last_block block count) s ≡ true → is_current leg (block + i) s ≡ true
  current-in is =
      let at : ℕ → ℕ → Bool = λ region place. has_region leg region (table s) || has_copied leg region place s.copy in
      let last : at (block / size) (block % size + (count - 1)) ≡ true =
      sym (ap (λ (n : ℕ). at n ((block + (count - 1)) % size)) there.0 ∙ ap (λ (n : ℕ). at (block / size) n) there.1) ∙ is in
      let low : block % size + i ≤ block % size + (count - 1) = omega (arith, below) in
      ap (λ (n : ℕ). at n ((block + i) % size)) here.0 ∙ ap (λ (n : ℕ). at (block / size) n) here.1
      ∙ or-then (has_region leg (block / size) (table s)) (has_copied leg (block / size) (block % size + (count - 1)) s.copy) (has_copied leg (block / size) (block % size + i) s.copy)
      (passed-before leg (block / size) (block % size + i) (block % size + (count - 1)) s.copy low) last

  quiet-in : is_quiet (last_block block count) s ≡ true → is_quiet (block + i) s ≡ true
  quiet-in is = ap (λ (n : ℕ). regions.is_quiet n (table s)) (here.0 ∙ sym there.0) ∙ is

  -- so it serves each
  from-in : ReadFrom type s (last_block block count) leg → ReadFrom type s (block + i) leg
  from-in (FromCurrent quiet current) = FromCurrent (quiet-in quiet) (current-in current)
  from-in (FromMaster at) = FromMaster at

-- so many blocks may be read
may_read_run : {L : Type 0} (s : StripeState L) (count : ℕ) → read_run_cause s count ≡ None → MayReadRun s count
may_read_run s count none =
    let rows = none_holds (read_run_rows s count) none in
    record {
      runs = when_off s.stopped Stopped rows.0;
      not_settling = when_off s.settling Settling rows.1.0;
      below = at_most (2 ^ 63) (next_number s + unlanded s.records + count) (when_off (is_exhausted_by count s) Exhausted rows.1.1.0);
    }

-- where many may be read one may
fewer-bits : (n count : ℕ) → 0 < count → nat_lt (2 ^ 63) (n + count) ≡ false → nat_le (2 ^ 63) n ≡ false
fewer-bits n count some off = grind (arith, nat_tests)

fewer-cause : {L : Type 0} (s : StripeState L) (count : ℕ) → 0 < count → read_run_cause s count ≡ None → read_cause s ≡ None
fewer-cause s count some none =
    let rows = none_holds (read_run_rows s count) none in
    let off : is_exhausted s ≡ false = fewer-bits (next_number s + unlanded s.records) count some (when_off (is_exhausted_by count s) Exhausted rows.1.1.0) in
    ap (λ (o : Option Refusal). option_or o (option_or (when s.settling Settling) (option_or (when (is_exhausted s) Exhausted) None))) rows.0
    ∙ ap (λ (o : Option Refusal). option_or o (option_or (when (is_exhausted s) Exhausted) None)) rows.1.0
    ∙ ap (λ (b : Bool). option_or (when b Exhausted) None) off

-- a read of each block in order leaves what one of the run leaves
read-form : {L : Type 0} (legs : List L) (turn : ℕ) (bs : List Block) (b : Block) (old : StripeState L) (block : ℕ) → read_each old legs block (b ∷ bs) turn ≡ after_read_run old legs block (b ∷ bs) turn
read-form legs turn [] b old block = refl
read-form {L} legs turn (c ∷ cs) b old block =
    let next : old.first + (old.total + 1) ≡ next_number old + 1 = omega arith in
    let kept : kept_with (read_entries (old.first + (old.total + 1)) (block + 1) (c ∷ cs)) (kept_with (entry_of_read (next_number old) block b ∷ []) old.kept) ≡ kept_with (read_entries (next_number old) block (b ∷ (c ∷ cs))) old.kept =
    ap (λ (n : ℕ). kept_with (read_entries n (block + 1) (c ∷ cs)) (kept_with (entry_of_read (next_number old) block b ∷ []) old.kept)) next
    ∙ kept-append old.kept (entry_of_read (next_number old) block b ∷ []) (read_entries (next_number old + 1) (block + 1) (c ∷ cs)) in
    let total : old.total + 1 + length (c ∷ cs) ≡ old.total + length (b ∷ (c ∷ cs)) = omega arith in
    read-form legs turn cs c (after_read_one old legs block b turn) (block + 1)
    ∙ ap (λ (es : KeptEntries). let s : StripeState L = record old { legs = legs; turn = turn; kept = es; total = old.total + 1 + length (c ∷ cs) } in s) kept
    ∙ ap (λ (n : ℕ). let s : StripeState L = record old { legs = legs; turn = turn; kept = kept_with (read_entries (next_number old) block (b ∷ (c ∷ cs))) old.kept; total = n } in s) total

-- the marks of the reads of a run
marks-reads : (number block : ℕ) (bs : List Block) → marks_of (reads_of number block bs) ≡ marks_of_reads number block bs
marks-reads number block [] = refl
marks-reads number block (b ∷ bs) = ap (λ (es : List Event). BeginsRead number block ∷ (RepliesRead number b ∷ es)) (marks-reads (number + 1) (block + 1) bs)

-- an array that is the same at each block of a run holds the run too
holds-as : (at : ℕ) (bs : List Block) (xs ys : Array) → ((b : ℕ) → at ≤ b → b < at + length bs → slice_get ys b ≡ slice_get xs b) → HoldsRun at bs xs → HoldsRun at bs ys
holds-as at [] xs ys alike holds = tt
holds-as at (b ∷ bs) xs ys alike holds = (alike at (omega arith) (omega arith) ∙ holds.0, holds-as (at + 1) bs xs ys (λ c low high. alike c (omega (arith, low)) (omega (arith, high))) holds.1)

module _ {L : Type 0} (type : LegType L) (old new : StripeState L) (block : ℕ) (bs : List Block) where
  abbrev count : ℕ
  count = length bs

  abbrev last : ℕ
  last = last_block block count

  module _ (names : EntryNames) (k : Keeps type old) (f : FindsRun type old new block bs names) where
    abbrev turn : ℕ
    turn = turn_after last old

    few : turn < 840
    few = turn-below old.turn (is_quiet last old) k.turn

    from-each : AllFrom type f.leg turn few old block count
    from-each b low high =
        let is : block + (b - block) ≡ b = omega (arith, low) in
        subst (λ (n : ℕ). ReadFrom type old n f.leg) is (from-in type old f.leg block count (b - block) (omega (arith, low, high)) f.called.fits.one_region (read_from type old last f.leg f.called.leg_is))

    number_is : names.number ≡ next_number old
    number_is = ap (λ (n : EntryNames). n.number) f.named

    each : (cs : List Block) → 0 < length cs → MayReadRun old (length cs) → AllFrom type f.leg turn few old block (length cs) → block + length cs ≤ old.place.blocks → ReadsRunAt type true f.leg block cs old.legs new.legs
        → RunRead type old (after_read_run old new.legs block cs turn) (reads_of (next_number old) block cs)
    each [] some may all inside reads = absurd (let e : ⊥ = omega (arith, some) in e)
    each (c ∷ cs) some may all inside reads =
        subst (λ (s : StripeState L). RunRead type old s (reads_of (next_number old) block (c ∷ cs))) (read-form new.legs turn cs c old block)
        (run-read type f.leg turn few c cs old new.legs block k may all inside reads)

    finds_run : RunRead type old new (reads_of names.number block bs)
    finds_run =
        subst (λ (n : ℕ). RunRead type old new (reads_of n block bs)) (sym number_is)
        (subst (λ (s : StripeState L). RunRead type old s (reads_of (next_number old) block bs)) (sym f.after)
        (each bs f.called.fits.some (may_read_run old count f.called.no_cause) from-each f.called.fits.inside f.called.reads))

    -- a read of a run keeps what every stripe keeps
    pub finds_run-keeps : Keeps type new
    finds_run-keeps = finds_run.keeps

    pub finds_run-explained : IsTrue type.honest → IsExplainedStep type.model (marks_of_reads names.number block bs) old new
    finds_run-explained is_honest = record { events = reads_of names.number block bs; marked = marks-reads names.number block bs; acts = finds_run.acts is_honest }

    -- and finds what the array has
    pub finds_run-array : IsTrue type.honest → HoldsRun block bs (stripe_array type.model old)
    finds_run-array is_honest =
        let w = f.called.reads in
        let may = may_read_run old count f.called.no_cause in
        let held : contents_of type.model old.legs f.leg ≡ (type.model w.before).contents = calls-before type.model old.legs new.legs f.leg w.before w.after w.change in
        holds-as block bs (type.model w.before).contents (stripe_array type.model old)
        (λ b low high.
        sym (from_holds type old b is_honest k may.runs may.not_settling (omega (arith, high, f.called.fits.inside)) f.leg (from-each b low high))
        ∙ ap (λ (xs : Array). slice_get xs b) held)
        (w.reads.found is_honest refl)

  -- a read whose leg failed is one of the last block
  pub loses_in_read_run-last : (leg : ℕ) → LosesInReadRun type old new block leg bs → LosesInRead type old new last leg (block_of [])
  loses_in_read_run-last leg l = record {
    called = record {
      no_cause = fewer-cause old count l.called.fits.some l.called.no_cause;
      leg_is = l.called.leg_is;
      reads = failed-read type leg block last (block_of []) bs old.legs new.legs l.called.reads;
    };
    not_last = l.not_last;
    after = l.after;
  }

  -- also where it was the last leg in sync
  pub fails_in_read_run-last : FailsInReadRun type old new block bs → FailsInRead type old new last (block_of [])
  fails_in_read_run-last f = record {
    leg = f.leg;
    called = record {
      no_cause = fewer-cause old count f.called.fits.some f.called.no_cause;
      leg_is = f.called.leg_is;
      reads = failed-read type f.leg block last (block_of []) bs old.legs new.legs f.called.reads;
    };
    last = f.last;
    after = f.after;
  }
