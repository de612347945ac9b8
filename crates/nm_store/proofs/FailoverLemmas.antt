-- Runs without an entry take effect one after the other: what is left to do after each of them makes
-- the whole with what is done.
use Rattle.std.proofs.Common.{◌≡◌, ℕ, zero, suc, ◌+◌, ◌<◌, ◌≤◌, ◌^◌, Bool, true, false, cond, List, [], ◌∷◌, ◌++◌, Option, None, Some, is_none, length, max, set, refl, sym, ap, ◌∙◌, subst, arith, get_or}
use Rattle.std.specs.List.{slice_get}
use Rattle.std.proofs.lemmas.Grind.{common_steps}
use Rattle.std.proofs.lemmas.List.Quantifiers.{position-Some}
use Rattle.std.proofs.lemmas.List.Sums.{fails_before_first, sum_by-cons}
use Rattle.std.proofs.lemmas.Option.{same_Some}
use Rattle.nm_replay.specs.declared.entry.Entry.{Entry}
use Rattle.nm_fanout.specs.declared.record_data.RecordData.{RecordData}
use Rattle.nm_fanout.specs.declared.write_record.Record.{Record}
use Rattle.nm_fanout.specs.Record.{waiting, with_entry}
use Rattle.nm_fanout.specs.RecordData.{blocks_in}
use Rattle.nm_fanout.specs.Records.{IsAt, first_unlanded, landed, landed_all}
use Rattle.nm_fanout.specs.Runs.{AreRuns, each_block, flat, laid_from, laid_out, runs_landed, unlanded_blocks}
use Rattle.nm_fanout.proofs.Indexed.{read-there}
use Rattle.nm_fanout.proofs.Laying.{length-each}
use Rattle.nm_fanout.proofs.Places.{IsAt-own, set-at}
use Rattle.nm_fanout.proofs.RunOrder.{ascends-runs, run-at}
use Rattle.nm_fanout.proofs.Waiting.{waiting-None, waiting-at, waiting-set}
use Rattle.nm_regions.specs.Table.{RegionTable, regions_of}
use Rattle.nm_replay.specs.Kept.{KeptEntries, kept_with}
use Rattle.nm_rules.specs.Lost.{landing}
use Rattle.nm_rules.specs.Push.{write_entry}
use Rattle.nm_rules.specs.RunPush.{run_entries}
use Rattle.nm_rules.specs.State.{writes_in}
use Rattle.nm_rules.proofs.KeptLemmas.{kept-append, kept-none}
use Rattle.nm_store.specs.Counting.{counting}
use Rattle.nm_store.specs.Landing.{AreWords, MayLand}
use Rattle.nm_store.proofs.CountLemmas.{alike-from, one}
use Rattle.nm_store.proofs.RunFitLemmas.{words-at}

-- the record of a run's first block
abbrev head_of : ℕ → ℕ → ℕ → List Bool → Option ℕ → RecordData → Record
head_of run ticket block owed entry d = record {
  run = run;
  ticket = ticket;
  block = block;
  «data» = d;
  owed = owed;
  entry = entry;
}

-- the blocks of a run without an entry get theirs before those of later runs
first-land : (next run ticket block : ℕ) (owed : List Bool) (ds : List RecordData)
    (ys : List Record)
    → landing next (laid_from run ticket block owed None ds ++ ys)
    ≡ run_entries next (laid_from run ticket block owed None ds) ++ landing (next + length ds) ys
first-land next run ticket block owed [] ys =
    let e : next ≡ next + 0 = omega arith in ap (λ (k : ℕ). landing k ys) e
first-land next run ticket block owed (d ∷ ds) ys =
    let e : next + 1 + length ds ≡ next + suc (length ds) = omega arith in
    let tail : List Record = laid_from run (ticket + 1) (block + 1) owed None ds in
    ap (λ (es : List Entry). write_entry next (head_of run ticket block owed None d) ∷ es)
    (first-land (next + 1) run (ticket + 1) (block + 1) owed ds ys
    ∙ ap (λ (k : ℕ). run_entries (next + 1) tail ++ landing k ys) e)

-- and those of a run with one get none
none-land : (next number run ticket block : ℕ) (owed : List Bool) (ds : List RecordData)
    (ys : List Record)
    → landing next (laid_from run ticket block owed (Some number) ds ++ ys) ≡ landing next ys
none-land next number run ticket block owed [] ys = refl
none-land next number run ticket block owed (d ∷ ds) ys =
    none-land next (number + 1) run (ticket + 1) (block + 1) owed ds ys

run-skips : (next run ticket block : ℕ) (owed : List Bool) (entry : Option ℕ)
    (ds : List RecordData) (ys : List Record) → is_none entry ≡ false
    → landing next (laid_from run ticket block owed entry ds ++ ys) ≡ landing next ys
run-skips next run ticket block owed None ds ys some = absurd cc
run-skips next run ticket block owed (Some number) ds ys some =
    none-land next number run ticket block owed ds ys

-- each run before this place has its entry
abbrev AllBefore : ℕ → List Record → Record → Type 0
AllBefore place rs d = (k : ℕ) → k < place → is_none (get_or rs k d).entry ≡ false

records-after : (next place : ℕ) (rs : List Record) (r : Record) → slice_get rs place ≡ Some r
    → is_none r.entry ≡ true → AllBefore place rs r
    → runs_landed (next + blocks_in r.data) (set rs place (with_entry next r)) ≡ runs_landed next rs
records-after next place [] r there waits before = absurd cc
records-after next zero (q ∷ rs) r there waits before =
    let is : q ≡ r = same_Some q r there in
    sym (ap (λ (x : Record). runs_landed next (x ∷ rs)) is
    ∙ ap (λ (b : Bool). cond b (with_entry next r ∷ runs_landed (next + blocks_in r.data) rs) (r ∷ runs_landed next rs)) waits)
records-after next (suc place) (q ∷ rs) r there waits before =
    let here : is_none q.entry ≡ false = before zero (omega arith) in
    let rest : AllBefore place rs r = λ k lt. before (suc k) (omega (arith, lt)) in
    rw here (ap (λ (l : List Record). q ∷ l) (records-after next place rs r there waits rest))

entries-after : (next place : ℕ) (rs : List Record) (r : Record) → slice_get rs place ≡ Some r
    → r.entry ≡ None → AllBefore place rs r
    → landing next (flat rs) ≡ run_entries next (laid_out r)
    ++ landing (next + blocks_in r.data) (flat (set rs place (with_entry next r)))
entries-after next place [] r there none before = absurd cc
entries-after next zero (q ∷ rs) r there none before =
    let is : q ≡ r = same_Some q r there in
    let laid : Option ℕ → List Record =
    λ e. laid_from r.run r.ticket r.block r.owed e (each_block r.data) in
    ap (λ (x : Record). landing next (laid_out x ++ flat rs)) is
    ∙ ap (λ (e : Option ℕ). landing next (laid e ++ flat rs)) none
    ∙ first-land next r.run r.ticket r.block r.owed (each_block r.data) (flat rs)
    ∙ ap (λ (e : Option ℕ). run_entries next (laid e) ++ landing (next + length (each_block r.data)) (flat rs)) (sym none)
    ∙ ap (λ (n : ℕ). run_entries next (laid_out r) ++ landing (next + n) (flat rs)) (length-each r.data)
    ∙ ap (λ (es : List Entry). run_entries next (laid_out r) ++ es)
    (sym (none-land (next + blocks_in r.data) next r.run r.ticket r.block r.owed (each_block r.data) (flat rs)))
entries-after next (suc place) (q ∷ rs) r there none before =
    let here : is_none q.entry ≡ false = before zero (omega arith) in
    let rest : AllBefore place rs r = λ k lt. before (suc k) (omega (arith, lt)) in
    let now : List Record = flat (set rs place (with_entry next r)) in
    run-skips next q.run q.ticket q.block q.owed q.entry (each_block q.data) (flat rs) here
    ∙ entries-after next place rs r there none rest
    ∙ ap (λ (es : List Entry). run_entries next (laid_out r) ++ es)
    (sym (run-skips (next + blocks_in r.data) q.run q.ticket q.block q.owed q.entry (each_block q.data) now here))

pub absent : (entry : Option ℕ) → is_none entry ≡ true → entry ≡ None
absent None is = refl
absent (Some n) is = absurd cc

-- what is left to do after the run at this place
pub record RunLands (next place : ℕ) (rs : List Record) (r : Record) (kept : KeptEntries)
    : Type 0 where
  pub at : IsAt r.ticket place rs
  pub none : r.entry ≡ None
  pub records : runs_landed (next + blocks_in r.data) (landed r.ticket next rs)
      ≡ runs_landed next rs
  pub entries : kept_with (landing (next + blocks_in r.data) (flat (landed r.ticket next rs)))
      (kept_with (run_entries next (laid_out r)) kept) ≡ kept_with (landing next (flat rs)) kept
  pub count : unlanded_blocks (landed r.ticket next rs) + blocks_in r.data ≡ unlanded_blocks rs

lands-at : (next place : ℕ) (rs : List Record) (r : Record) (kept : KeptEntries) → AreRuns rs
    → slice_get rs place ≡ Some r → is_none r.entry ≡ true → AllBefore place rs r
    → RunLands next place rs r kept
lands-at next place rs r kept h there waits before =
    let read = read-there rs place r there in
    let none : r.entry ≡ None = absent r.entry waits in
    let at : IsAt r.ticket place rs =
    subst (λ (x : Record). IsAt x.ticket place rs) (sym read.1)
    (IsAt-own place rs r (ascends-runs rs h) read.0) in
    let is : set rs place (with_entry next r) ≡ landed r.ticket next rs =
    set-at (with_entry next) r.ticket place rs r (ascends-runs rs h) at read.1 in
    let rest : List Entry =
    landing (next + blocks_in r.data) (flat (set rs place (with_entry next r))) in
    record {
      at = at;
      none = none;
      records = ap (λ (l : List Record). runs_landed (next + blocks_in r.data) l) (sym is)
          ∙ records-after next place rs r there waits before;
      entries = ap (λ (l : List Record). kept_with (landing (next + blocks_in r.data) (flat l)) (kept_with (run_entries next (laid_out r)) kept)) (sym is)
          ∙ kept-append kept (run_entries next (laid_out r)) rest
          ∙ ap (λ (es : List Entry). kept_with es kept) (sym (entries-after next place rs r there none before));
      count = omega (
        arith,
        ap (λ (l : List Record). unlanded_blocks l) is,
        waiting-set rs place r (with_entry next r) there,
        waiting-None r none,
      );
    }

pub run-lands-next : (next place : ℕ) (rs : List Record) (r : Record) (kept : KeptEntries)
    → AreRuns rs → first_unlanded rs ≡ Some place → slice_get rs place ≡ Some r
    → RunLands next place rs r kept
run-lands-next next place rs r kept h first there =
    let is = position-Some (λ (x : Record). is_none x.entry) rs place r first in
    let same : get_or rs place r ≡ r = sym (read-there rs place r there).1 in
    lands-at next place rs r kept h there
    (subst (λ (x : Record). is_none x.entry ≡ true) same is.1) is.2

-- each run has its entry
abbrev AllLanded : List Record → Record → Type 0
AllLanded rs d = (k : ℕ) → k < length rs → is_none (get_or rs k d).entry ≡ false

all-done : (next : ℕ) (rs : List Record) (d : Record) → AllLanded rs d
    → (runs_landed next rs ≡ rs) × (landing next (flat rs) ≡ []) × (unlanded_blocks rs ≡ 0)
all-done next [] d all = (refl, refl, refl)
all-done next (r ∷ rs) d all =
    let here : is_none r.entry ≡ false = all zero (omega arith) in
    let rest = all-done next rs d (λ k lt. all (suc k) (omega (arith, lt))) in
    let none : waiting r ≡ 0 = ap (λ (b : Bool). cond {A = ℕ} b (blocks_in r.data) 0) here in (
      rw here (ap (λ (l : List Record). r ∷ l) rest.0),
      run-skips next r.run r.ticket r.block r.owed r.entry (each_block r.data) (flat rs) here ∙ rest.1,
      omega (arith, none, rest.2),
    )

-- where none is left all is done
pub all-runs-landed : (next : ℕ) (rs : List Record) (kept : KeptEntries) → length kept.entries ≤ kept.most
    → first_unlanded rs ≡ None
    → (runs_landed next rs ≡ rs) × (kept_with (landing next (flat rs)) kept ≡ kept)
    × (unlanded_blocks rs ≡ 0)
all-runs-landed next [] kept few none = (refl, kept-none kept few, refl)
all-runs-landed next (r ∷ rs) kept few none =
    let done = all-done next (r ∷ rs) r (λ k lt. fails_before_first
    (λ (x : Record). is_none x.entry) (r ∷ rs) k r (grind (arith, common_steps))) in (
      done.0,
      ap (λ (es : List Entry). kept_with es kept) done.1 ∙ kept-none kept few,
      done.2,
    )

-- a run without an entry may land, as there are numbers for all that wait
pub may-land : (first number before place : ℕ) (rs : List Record) (r : Record) → AreRuns rs
    → AreWords rs → slice_get rs place ≡ Some r → r.entry ≡ None → number ≡ first + before
    → first + before + unlanded_blocks rs ≤ max (2 ^ 63) first → MayLand r number before
may-land first number before place rs r h words there none is numbers =
    let some = (run-at rs place r h.runs there).filled.some in
    let word = words-at place rs r words there in
    record {
      numbers = omega (arith, is, numbers, some, waiting-at rs place r there, waiting-None r none);
      total = omega (arith, is, numbers, some, waiting-at rs place r there, waiting-None r none);
      tickets = word.0;
      blocks = word.1;
    }

-- a write that takes effect stays under way, or stays finished
count-landed : (size region next : ℕ) (rs : List Record) → writes_in size region (landed_all next rs) ≡ writes_in size region rs
count-landed size region next [] = refl
count-landed size region next (r ∷ rs) =
    elim (is_none r.entry) as (λ b. writes_in size region (cond b (with_entry next r ∷ landed_all (next + 1) rs) (r ∷ landed_all next rs)) ≡ writes_in size region (r ∷ rs)) [
      | true ↦ omega (arith, sum_by-cons (one size region) (with_entry next r) (landed_all (next + 1) rs), sum_by-cons (one size region) r rs, count-landed size region (next + 1) rs)
      | false ↦ omega (arith, sum_by-cons (one size region) r (landed_all next rs), sum_by-cons (one size region) r rs, count-landed size region next rs)
    ]

-- so the table that counts the writes under way stays
pub counting-landed : (next : ℕ) (rs : List Record) (t : RegionTable) → counting (landed_all next rs) t ≡ counting rs t
counting-landed next rs t =
    let regions = regions_of t.blocks t.region in
    ap (λ (ws : List ℕ). record t { writes = ws }) (alike-from t.region regions 0 (landed_all next rs) rs (λ m low. count-landed t.region m next rs))
