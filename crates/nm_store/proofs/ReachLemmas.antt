-- The region table counts each block of a run until the run is finished.
use Rattle.std.proofs.Common.{◌≡◌, ◌≢◌, ℕ, zero, suc, ◌+◌, ◌-◌, ◌*◌, ◌<◌, ◌≤◌, ◌/◌, ◌%◌, ◌==◌, ◌&&◌, Bool, true, false, cond, List, [], ◌∷◌, ◌++◌, Option, Some, length, set, refl, sym, ap, ◌∙◌, subst, arith, eq-eqb, ne_eqb, get_or, slice_set, inl, inr}
use Rattle.std.specs.List.{list_any, slice_get}
use Rattle.std.proofs.Math.Nat.{div-mul-le_self, mod-eq-sub-div-mul}
use Rattle.std.proofs.lemmas.Nat.{div-mul-add}
use Rattle.std.proofs.lemmas.List.Sums.{sum_by-append, sum_by-cons}
use Rattle.std.proofs.lemmas.Option.{same_Some}
use Rattle.nm_fanout.specs.declared.record_data.RecordData.{RecordData}
use Rattle.nm_fanout.specs.declared.write_record.Record.{Record}
use Rattle.nm_fanout.specs.Record.{is_under_way, with_entry, without_leg}
use Rattle.nm_fanout.specs.RecordData.{blocks_in}
use Rattle.nm_fanout.specs.Records.{IsAt, find_record, landed, reached}
use Rattle.nm_fanout.specs.Runs.{AreRuns, each_block, flat, laid_from, laid_out, next_entry}
use Rattle.nm_fanout.proofs.Indexed.{read-there}
use Rattle.nm_fanout.proofs.Laying.{length-each}
use Rattle.nm_fanout.proofs.Owed.{tells}
use Rattle.nm_fanout.proofs.Places.{IsAt-own, set-at}
use Rattle.nm_fanout.proofs.RunOrder.{ascends-runs, runs-set, without_leg-run}
use Rattle.nm_regions.specs.Changes.{finished_run}
use Rattle.nm_regions.specs.Table.{RegionTable, region_of, regions_of}
use Rattle.nm_regions.specs.Table as regions
use Rattle.nm_rules.specs.State.{writes_in, writes_from}
use Rattle.nm_rules.proofs.ChunkLemmas.{region_within}
use Rattle.nm_store.specs.Counting.{counting}
use Rattle.nm_store.proofs.CountLemmas.{alike-from, get-one, one, set-one}

-- how many of so many blocks from this one on lie in the region
abbrev pub blocks_at : ℕ → ℕ → ℕ → ℕ → ℕ
blocks_at size region block zero = 0
blocks_at size region block (suc n) =
    cond (block / size == region) 1 0 + blocks_at size region (block + 1) n

-- the record of a run's first block
abbrev head_of : ℕ → ℕ → ℕ → List Bool → Option ℕ → RecordData → Record
head_of run ticket block owed entry d = record {
  run = run;
  ticket = ticket;
  block = block;
  «data» = d;
  owed = owed;
  entry = entry;
}

-- while some leg is owed each block counts in its region
count-going : (size region run ticket block : ℕ) (owed : List Bool) (entry : Option ℕ)
    (ds : List RecordData) → list_any (λ (o : Bool). o) owed ≡ true
    → writes_in size region (laid_from run ticket block owed entry ds)
    ≡ blocks_at size region block (length ds)
count-going size region run ticket block owed entry [] going = refl
count-going size region run ticket block owed entry (d ∷ ds) going =
    let tail : List Record = laid_from run (ticket + 1) (block + 1) owed (next_entry entry) ds in
    let here : one size region (head_of run ticket block owed entry d)
    ≡ cond {A = ℕ} (block / size == region) 1 0 =
    ap (λ (b : Bool). cond {A = ℕ} (b && (block / size == region)) 1 0) going in
    omega (
      arith,
      sum_by-cons (one size region) (head_of run ticket block owed entry d) tail,
      here,
      count-going size region run (ticket + 1) (block + 1) owed (next_entry entry) ds going,
    )

-- and none does once none is
count-over : (size region run ticket block : ℕ) (owed : List Bool) (entry : Option ℕ)
    (ds : List RecordData) → list_any (λ (o : Bool). o) owed ≡ false
    → writes_in size region (laid_from run ticket block owed entry ds) ≡ 0
count-over size region run ticket block owed entry [] over = refl
count-over size region run ticket block owed entry (d ∷ ds) over =
    let tail : List Record = laid_from run (ticket + 1) (block + 1) owed (next_entry entry) ds in
    let here : one size region (head_of run ticket block owed entry d) ≡ 0 =
    ap (λ (b : Bool). cond {A = ℕ} (b && (block / size == region)) 1 0) over in
    omega (
      arith,
      sum_by-cons (one size region) (head_of run ticket block owed entry d) tail,
      here,
      count-over size region run (ticket + 1) (block + 1) owed (next_entry entry) ds over,
    )

run-going : (size region : ℕ) (r : Record) → is_under_way r ≡ true
    → writes_in size region (laid_out r) ≡ blocks_at size region r.block (blocks_in r.data)
run-going size region r going =
    count-going size region r.run r.ticket r.block r.owed r.entry (each_block r.data) going
    ∙ ap (λ (n : ℕ). blocks_at size region r.block n) (length-each r.data)

pub run-over : (size region : ℕ) (r : Record) → is_under_way r ≡ false
    → writes_in size region (laid_out r) ≡ 0
run-over size region r over =
    count-over size region r.run r.ticket r.block r.owed r.entry (each_block r.data) over

-- the same run, as long as it stays under way or stays finished
pub run-alike : (size region : ℕ) (x y : Record) → y.block ≡ x.block → y.data ≡ x.data
    → is_under_way y ≡ is_under_way x
    → writes_in size region (laid_out y) ≡ writes_in size region (laid_out x)
run-alike size region x y block bytes busy =
    elim (tells (is_under_way x)) [
      | inl w ↦ run-going size region y (busy ∙ w)
          ∙ ap (λ (b : ℕ). blocks_at size region b (blocks_in y.data)) block
          ∙ ap (λ (d : RecordData). blocks_at size region x.block (blocks_in d)) bytes
          ∙ sym (run-going size region x w)
      | inr w ↦ run-over size region y (busy ∙ w) ∙ sym (run-over size region x w)
    ]

-- blocks inside one region are all there
all-there : (size region m n : ℕ) → m + n ≤ size
    → blocks_at size region (region * size + m) n ≡ n
all-there size region m zero within = refl
all-there size region m (suc n) within =
    let here : ((region * size + m) / size == region) ≡ true =
    eq-eqb ((region * size + m) / size) region
    (div-mul-add region size m (omega (arith, within))) in
    let next : region * size + m + 1 ≡ region * size + (m + 1) = omega arith in
    omega (
      arith,
      ap (λ (b : Bool). cond {A = ℕ} b 1 0) here,
      ap (λ (b : ℕ). blocks_at size region b n) next,
      all-there size region (m + 1) n (omega (arith, within)),
    )

none-there : (size region other m n : ℕ) → other ≢ region → m + n ≤ size
    → blocks_at size other (region * size + m) n ≡ 0
none-there size region other m zero ne within = refl
none-there size region other m (suc n) ne within =
    let at : (region * size + m) / size ≡ region =
    div-mul-add region size m (omega (arith, within)) in
    let here : ((region * size + m) / size == other) ≡ false =
    ne_eqb ((region * size + m) / size) other (λ e. ne (sym e ∙ at)) in
    let next : region * size + m + 1 ≡ region * size + (m + 1) = omega arith in
    omega (
      arith,
      ap (λ (b : Bool). cond {A = ℕ} b 1 0) here,
      ap (λ (b : ℕ). blocks_at size other b n) next,
      none-there size region other (m + 1) n ne (omega (arith, within)),
    )

-- a block is so many regions and a place in its own
place-in : (size block : ℕ) → block ≡ block / size * size + block % size
place-in size block =
    omega (arith, div-mul-le_self block size, mod-eq-sub-div-mul block size)

-- a run under way inside one region counts there with all of its blocks
pub run-here : (size : ℕ) (r : Record) → is_under_way r ≡ true
    → r.block % size + blocks_in r.data ≤ size
    → writes_in size (r.block / size) (laid_out r) ≡ blocks_in r.data
run-here size r going within = run-going size (r.block / size) r going
    ∙ ap (λ (b : ℕ). blocks_at size (r.block / size) b (blocks_in r.data)) (place-in size r.block)
    ∙ all-there size (r.block / size) (r.block % size) (blocks_in r.data) within

-- and in no other
pub run-elsewhere : (size other : ℕ) (r : Record) → other ≢ r.block / size
    → r.block % size + blocks_in r.data ≤ size → writes_in size other (laid_out r) ≡ 0
run-elsewhere size other r ne within =
    elim (tells (is_under_way r)) [
      | inl w ↦ run-going size other r w
          ∙ ap (λ (b : ℕ). blocks_at size other b (blocks_in r.data)) (place-in size r.block)
          ∙ none-there size (r.block / size) other (r.block % size) (blocks_in r.data) ne within
      | inr w ↦ run-over size other r w
    ]

pub writes-append : (size region : ℕ) (xs ys : List Record)
    → writes_in size region (xs ++ ys) ≡ writes_in size region xs + writes_in size region ys
writes-append size region xs ys = sum_by-append (one size region) xs ys

-- another run stands at a place: only its own counts move
count-set : (size region place : ℕ) (rs : List Record) (x y : Record) → slice_get rs place ≡ Some x
    → writes_in size region (flat (set rs place y)) + writes_in size region (laid_out x)
    ≡ writes_in size region (flat rs) + writes_in size region (laid_out y)
count-set size region place [] x y there = absurd cc
count-set size region zero (q ∷ rs) x y there =
    let is : q ≡ x = same_Some q x there in
    omega (
      arith,
      writes-append size region (laid_out y) (flat rs),
      writes-append size region (laid_out q) (flat rs),
      ap (λ (z : Record). writes_in size region (laid_out z)) is,
    )
count-set size region (suc place) (q ∷ rs) x y there = omega (
  arith,
  writes-append size region (laid_out q) (flat (set rs place y)),
  writes-append size region (laid_out q) (flat rs),
  count-set size region place rs x y there,
)

-- the run at this place, and the same run once it is changed
pub record Changes (place : ℕ) (rs : List Record) (x y : Record) : Type 0 where
  pub there : slice_get rs place ≡ Some x
  pub block : y.block ≡ x.block
  pub bytes : y.data ≡ x.data

-- it stays under way, or stays finished
pub counts-stay : (place : ℕ) (rs : List Record) (x y : Record) (t : RegionTable)
    → Changes place rs x y → is_under_way y ≡ is_under_way x
    → counting (flat (set rs place y)) t ≡ counting (flat rs) t
counts-stay place rs x y t c busy =
    let same : (m : ℕ) → writes_in t.region m (flat (set rs place y)) ≡ writes_in t.region m (flat rs) =
    λ m. omega (
      arith,
      count-set t.region m place rs x y c.there,
      run-alike t.region m x y c.block c.bytes busy,
    ) in
    ap (λ (ws : List ℕ). record t { writes = ws })
    (alike-from t.region (regions_of t.blocks t.region) 0 (flat (set rs place y)) (flat rs) (λ m low. same m))

-- the run at a place is counted
count-at : (size region place : ℕ) (rs : List Record) (x : Record) → slice_get rs place ≡ Some x
    → writes_in size region (laid_out x) ≤ writes_in size region (flat rs)
count-at size region place [] x there = absurd cc
count-at size region zero (q ∷ rs) x there =
    let is : q ≡ x = same_Some q x there in
    omega (
      arith,
      writes-append size region (laid_out q) (flat rs),
      ap (λ (z : Record). writes_in size region (laid_out z)) is,
    )
count-at size region (suc place) (q ∷ rs) x there = omega (
  arith,
  writes-append size region (laid_out q) (flat rs),
  count-at size region place rs x there,
)

-- the run was under way, and is not any more
pub record Finishes (place : ℕ) (rs : List Record) (x y : Record) (blocks size : ℕ) : Type 0 where
  pub changes : Changes place rs x y
  pub going : is_under_way x ≡ true
  pub over : is_under_way y ≡ false
  pub some : 0 < blocks_in x.data
  pub inside : x.block + blocks_in x.data ≤ blocks
  pub one_region : x.block % size + blocks_in x.data ≤ size

module _ (place : ℕ) (rs : List Record) (x y : Record) (t : RegionTable)
    (f : Finishes place rs x y t.blocks t.region) where
  size : 0 < t.region
  size = omega (arith, f.some, f.one_region)

  within : x.block / t.region < regions_of t.blocks t.region
  within = region_within x.block t.blocks t.region (omega (arith, f.some, f.inside)) size

  count-here : get_or (writes_from t.region (regions_of t.blocks t.region) 0 (flat rs)) (x.block / t.region) 0
      ≡ writes_in t.region (x.block / t.region) (flat rs)
  count-here =
      let at : x.block / t.region ≡ 0 + x.block / t.region = omega arith in
      get-one t.region (regions_of t.blocks t.region) 0 (x.block / t.region) (x.block / t.region) (flat rs) at within

  -- its region counted each of its blocks
  pub counted-before : blocks_in x.data ≤ regions.writes_in (region_of x.block t) (counting (flat rs) t)
  counted-before = omega (
    arith,
    count-here,
    count-at t.region (x.block / t.region) place rs x f.changes.there,
    run-here t.region x f.going f.one_region,
  )

  -- and counts none of them any more
  pub counts-finish : finished_run x.block (blocks_in x.data) (counting (flat rs) t)
      ≡ counting (flat (set rs place y)) t
  counts-finish =
      let j : ℕ = x.block / t.region in
      let now : List Record = flat (set rs place y) in
      let n : ℕ = regions_of t.blocks t.region in
      let old : List ℕ = writes_from t.region n 0 (flat rs) in
      let at : j ≡ 0 + j = omega arith in
      let others : (m : ℕ) → m ≢ j → writes_in t.region m now ≡ writes_in t.region m (flat rs) =
      λ m ne. omega (
        arith,
        count-set t.region m place rs x y f.changes.there,
        run-elsewhere t.region m x ne f.one_region,
        run-over t.region m y f.over,
      ) in
      let here : writes_in t.region j now ≡ get_or old j 0 - blocks_in x.data = omega (
        arith,
        count-here,
        count-set t.region j place rs x y f.changes.there,
        run-here t.region x f.going f.one_region,
        run-over t.region j y f.over,
      ) in
      ap (λ (ws : List ℕ). record t { writes = ws })
      (sym (set-one t.region n 0 j j now (flat rs) at others
      ∙ ap (λ (c : ℕ). slice_set old j c) here))

-- what stands at a place that was set
set-there : (place : ℕ) (rs : List Record) (y : Record) → place < length rs
    → (slice_get (set rs place y) place ≡ Some y) × (place < length (set rs place y))
set-there place [] y within = absurd (omega (arith, within))
set-there zero (r ∷ rs) y within = (refl, omega arith)
set-there (suc place) (r ∷ rs) y within =
    let rest = set-there place rs y (omega (arith, within)) in (rest.0, omega (arith, rest.1))

-- the run at this place, before and after it reaches a leg
pub record Reaches (place leg : ℕ) (rs : List Record) (x : Record) : Type 0 where
  pub at : IsAt x.ticket place rs
  pub found : find_record x.ticket rs ≡ Some x
  pub set_is : set rs place (without_leg leg x) ≡ reached x.ticket leg rs
  pub after : slice_get (reached x.ticket leg rs) place ≡ Some (without_leg leg x)
  pub within : place < length (reached x.ticket leg rs)
  pub order : AreRuns (reached x.ticket leg rs)
  pub at_after : IsAt x.ticket place (reached x.ticket leg rs)
  pub changes : Changes place rs x (without_leg leg x)

pub run-at-place : (place : ℕ) (rs : List Record) (x : Record) → AreRuns rs
    → slice_get rs place ≡ Some x → IsAt x.ticket place rs
run-at-place place rs x h there =
    let read = read-there rs place x there in
    subst (λ (r : Record). IsAt r.ticket place rs) (sym read.1)
    (IsAt-own place rs x (ascends-runs rs h) read.0)

pub reaches : (place leg : ℕ) (rs : List Record) (x : Record) → AreRuns rs
    → slice_get rs place ≡ Some x → Reaches place leg rs x
reaches place leg rs x h there =
    let read = read-there rs place x there in
    let at = run-at-place place rs x h there in
    let is : set rs place (without_leg leg x) ≡ reached x.ticket leg rs =
    set-at (without_leg leg) x.ticket place rs x (ascends-runs rs h) at read.1 in
    let now = set-there place rs (without_leg leg x) read.0 in
    let order : AreRuns (reached x.ticket leg rs) =
    subst (λ (l : List Record). AreRuns l) is
    (runs-set rs place x (without_leg leg x) h there (without_leg-run leg x)) in
    let after : slice_get (reached x.ticket leg rs) place ≡ Some (without_leg leg x) =
    ap (λ (l : List Record). slice_get l place) (sym is) ∙ now.0 in
    record {
      at = at;
      found = at.found ∙ there;
      set_is = is;
      after = after;
      within = omega (arith, now.1, ap (λ (l : List Record). length l) is);
      order = order;
      at_after = run-at-place place (reached x.ticket leg rs) (without_leg leg x) order after;
      changes = record { there = there; block = refl; bytes = refl };
    }

-- a run that takes effect stays under way, or stays finished
pub lands-counts : (place leg number : ℕ) (rs : List Record) (x : Record) (t : RegionTable)
    → AreRuns rs → slice_get rs place ≡ Some x
    → counting (flat (landed x.ticket number (reached x.ticket leg rs))) t
    ≡ counting (flat (reached x.ticket leg rs)) t
lands-counts place leg number rs x t h there =
    let p = reaches place leg rs x h there in
    let now : List Record = reached x.ticket leg rs in
    let y : Record = without_leg leg x in
    let is : set now place (with_entry number y) ≡ landed x.ticket number now =
    set-at (with_entry number) x.ticket place now y (ascends-runs now p.order) p.at_after
    (read-there now place y p.after).1 in
    ap (λ (l : List Record). counting (flat l) t) (sym is)
    ∙ counts-stay place now y (with_entry number y) t
    (record { there = p.after; block = refl; bytes = refl }) refl
