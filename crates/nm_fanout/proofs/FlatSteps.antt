-- Each change of the runs, and each search among them, as one of the records of their blocks.
use Rattle.std.proofs.Common.{◌≡◌, ℕ, zero, suc, ◌+◌, ◌<◌, ◌&&◌, Bool, true, false, cond, not, nat_lt, List, [], ◌∷◌, ◌++◌, length, map, filter, set, Option, None, Some, is_none, refl, sym, ap, ◌∙◌, arith}
use Rattle.std.specs.List.{list_any}
use Rattle.std.specs.Option.{option_map}
use Rattle.std.proofs.lemmas.Bool.Decides.{nat_tests}
use Rattle.std.proofs.lemmas.List.Sums.{sum_by-cons}
use Rattle.nm_fanout.specs.declared.record_data.RecordData.{RecordData}
use Rattle.nm_fanout.specs.declared.write_record.Record.{Record}
use Rattle.nm_fanout.specs.Record.{is_under_way, without_leg, with_entry}
use Rattle.nm_fanout.specs.RecordData.{blocks_in}
use Rattle.nm_fanout.specs.Records.{busy_among, is_among, landed_all, left_by, unlanded, without}
use Rattle.nm_fanout.specs.Runs.{AllRuns, each_block, flat, laid_from, laid_out, next_entry, run_busy_among, runs_landed, unlanded_blocks}
use Rattle.nm_fanout.proofs.Laying.{length-each}
use Rattle.nm_fanout.proofs.Landing.{waits}

map-append : (f : Record → Record) (xs ys : List Record) → map f (xs ++ ys) ≡ map f xs ++ map f ys
map-append f [] ys = refl
map-append f (x ∷ xs) ys = ap (λ (zs : List Record). f x ∷ zs) (map-append f xs ys)

-- the record of a run's first block
abbrev head_of : ℕ → ℕ → ℕ → List Bool → Option ℕ → RecordData → Record
head_of run ticket block owed entry d = record {
  run = run;
  ticket = ticket;
  block = block;
  «data» = d;
  owed = owed;
  entry = entry;
}

laid-left : (leg run ticket block : ℕ) (owed : List Bool) (entry : Option ℕ) (ds : List RecordData)
    → laid_from run ticket block (set owed leg false) entry ds
    ≡ map (without_leg leg) (laid_from run ticket block owed entry ds)
laid-left leg run ticket block owed entry [] = refl
laid-left leg run ticket block owed entry (d ∷ ds) =
    ap (λ (xs : List Record). head_of run ticket block (set owed leg false) entry d ∷ xs)
    (laid-left leg run (ticket + 1) (block + 1) owed (next_entry entry) ds)

-- a leg leaves all runs: it leaves all of their blocks
pub flat-left_by : (leg : ℕ) (rs : List Record) → flat (left_by leg rs) ≡ left_by leg (flat rs)
flat-left_by leg [] = refl
flat-left_by leg (r ∷ rs) =
    ap (λ (xs : List Record). xs ++ flat (left_by leg rs))
    (laid-left leg r.run r.ticket r.block r.owed r.entry (each_block r.data))
    ∙ ap (λ (xs : List Record). map (without_leg leg) (laid_out r) ++ xs) (flat-left_by leg rs)
    ∙ sym (map-append (without_leg leg) (laid_out r) (flat rs))

pub filter-append : (p : Record → Bool) (xs ys : List Record)
    → filter p (xs ++ ys) ≡ filter p xs ++ filter p ys
filter-append p [] ys = refl
filter-append p (x ∷ xs) ys =
    elim (p x) as (λ b. cond b (x ∷ filter p (xs ++ ys)) (filter p (xs ++ ys))
    ≡ cond b (x ∷ filter p xs) (filter p xs) ++ filter p ys) [
      | true ↦ ap (λ (zs : List Record). x ∷ zs) (filter-append p xs ys)
      | false ↦ filter-append p xs ys
    ]

-- a choice by the run takes all of its blocks, or none
all-chosen : (p : ℕ → Bool) (run ticket block : ℕ) (owed : List Bool) (entry : Option ℕ)
    (ds : List RecordData) → p run ≡ true
    → filter (λ o. p o.run) (laid_from run ticket block owed entry ds)
    ≡ laid_from run ticket block owed entry ds
all-chosen p run ticket block owed entry [] is = refl
all-chosen p run ticket block owed entry (d ∷ ds) is =
    rw is (ap (λ (xs : List Record). head_of run ticket block owed entry d ∷ xs)
    (all-chosen p run (ticket + 1) (block + 1) owed (next_entry entry) ds is))

none-chosen : (p : ℕ → Bool) (run ticket block : ℕ) (owed : List Bool) (entry : Option ℕ)
    (ds : List RecordData) → p run ≡ false
    → filter (λ o. p o.run) (laid_from run ticket block owed entry ds) ≡ []
none-chosen p run ticket block owed entry [] is = refl
none-chosen p run ticket block owed entry (d ∷ ds) is =
    rw is (none-chosen p run (ticket + 1) (block + 1) owed (next_entry entry) ds is)

run-chosen : (p : ℕ → Bool) (r : Record) (b : Bool) → p r.run ≡ b
    → filter (λ o. p o.run) (laid_out r) ≡ cond b (laid_out r) []
run-chosen p r true is = all-chosen p r.run r.ticket r.block r.owed r.entry (each_block r.data) is
run-chosen p r false is = none-chosen p r.run r.ticket r.block r.owed r.entry (each_block r.data) is

-- a choice among the runs by their tickets is one among their blocks by their runs
pub flat-chosen : (p : ℕ → Bool) (rs : List Record) → AllRuns rs
    → flat (filter (λ r. p r.ticket) rs) ≡ filter (λ o. p o.run) (flat rs)
flat-chosen p [] h = refl
flat-chosen p (r ∷ rs) h =
    let same : p r.run ≡ p r.ticket = ap p h.0.named in
    chosen (p r.ticket) ∙ ap (λ (xs : List Record). cond (p r.ticket) (laid_out r) [] ++ xs)
    (flat-chosen p rs h.1)
    ∙ ap (λ (xs : List Record). xs ++ filter (λ o. p o.run) (flat rs))
    (sym (run-chosen p r (p r.ticket) same))
    ∙ sym (filter-append (λ o. p o.run) (laid_out r) (flat rs))
  where
    chosen : (b : Bool) → flat (cond b (r ∷ filter (λ x. p x.ticket) rs) (filter (λ x. p x.ticket) rs))
        ≡ cond b (laid_out r) [] ++ flat (filter (λ x. p x.ticket) rs)
    chosen true = refl
    chosen false = refl

and_false : (a : Bool) → (a && false) ≡ false
and_false true = refl
and_false false = refl

-- whether one of so many blocks from this one on is among the others
abbrev any_among : ℕ → ℕ → ℕ → ℕ → Bool
any_among first count block zero = false
any_among first count block (suc n) =
    cond (is_among first count block) true (any_among first count (block + 1) n)

-- a run that is not under way has no block that is
idle-found : (first count run ticket block : ℕ) (owed : List Bool) (entry : Option ℕ)
    (ds : List RecordData) (ys : List Record) → list_any (λ (o : Bool). o) owed ≡ false
    → busy_among first count (laid_from run ticket block owed entry ds ++ ys)
    ≡ busy_among first count ys
idle-found first count run ticket block owed entry [] ys idle = refl
idle-found first count run ticket block owed entry (d ∷ ds) ys idle =
    let off : (is_among first count block && list_any (λ (o : Bool). o) owed) ≡ false =
    ap (λ (b : Bool). is_among first count block && b) idle
    ∙ and_false (is_among first count block) in
    ap (λ (b : Bool). cond b (Some (head_of run ticket block owed entry d)) (busy_among first count
    (laid_from run (ticket + 1) (block + 1) owed (next_entry entry) ds ++ ys))) off
    ∙ idle-found first count run (ticket + 1) (block + 1) owed (next_entry entry) ds ys idle

-- of one that is under way the first that is found is one of the run
going-found : (first count run ticket block : ℕ) (owed : List Bool) (entry : Option ℕ)
    (ds : List RecordData) (ys : List Record) → list_any (λ (o : Bool). o) owed ≡ true
    → option_map (λ (o : Record). o.run)
    (busy_among first count (laid_from run ticket block owed entry ds ++ ys))
    ≡ cond (any_among first count block (length ds)) (Some run)
    (option_map (λ (o : Record). o.run) (busy_among first count ys))
going-found first count run ticket block owed entry [] ys going = refl
going-found first count run ticket block owed entry (d ∷ ds) ys going =
    let head : Record = head_of run ticket block owed entry d in
    let rest : List Record =
    laid_from run (ticket + 1) (block + 1) owed (next_entry entry) ds ++ ys in
    let later : Option ℕ = option_map (λ (o : Record). o.run) (busy_among first count ys) in
    ap (λ (b : Bool). option_map (λ (o : Record). o.run)
    (cond (is_among first count block && b) (Some head) (busy_among first count rest))) going
    ∙ (elim (is_among first count block) as (λ c. option_map (λ (o : Record). o.run)
    (cond (c && true) (Some head) (busy_among first count rest))
    ≡ cond (cond c true (any_among first count (block + 1) (length ds))) (Some run) later) [
      | true ↦ refl
      | false ↦ going-found first count run (ticket + 1) (block + 1) owed (next_entry entry) ds ys going
    ])

-- ranges that have a block in common, told from their ends
any-meets : (first count block n : ℕ) → 0 < count → any_among first count block (suc n)
    ≡ (nat_lt first (block + suc n) && nat_lt block (first + count))
any-meets first count block zero some = grind (arith, nat_tests)
any-meets first count block (suc n) some =
    ap (λ (b : Bool). cond (is_among first count block) true b)
    (any-meets first count (block + 1) n some) ∙ grind (arith, nat_tests)

some-meets : (first count block n : ℕ) → 0 < count → 0 < n → any_among first count block n
    ≡ (nat_lt first (block + n) && nat_lt block (first + count))
some-meets first count block zero some low = absurd (omega (arith, low))
some-meets first count block (suc n) some low = any-meets first count block n some

found-first : (first count : ℕ) (r : Record) (rs : List Record) (b : Bool)
    → option_map (λ (x : Record). x.ticket) (cond (b && true) (Some r) (run_busy_among first count rs))
    ≡ cond b (Some r.ticket) (option_map (λ (x : Record). x.ticket) (run_busy_among first count rs))
found-first first count r rs true = refl
found-first first count r rs false = refl

-- the run that is found busy by its range is that of the block that is found busy
pub flat-busy : (first count : ℕ) (rs : List Record) → 0 < count → AllRuns rs
    → option_map (λ (r : Record). r.ticket) (run_busy_among first count rs)
    ≡ option_map (λ (o : Record). o.run) (busy_among first count (flat rs))
flat-busy first count [] some all = refl
flat-busy first count (r ∷ rs) some all =
    elim (is_under_way r) as (λ g. is_under_way r ≡ g → option_map (λ (x : Record). x.ticket)
    (cond (ends && g) (Some r) (run_busy_among first count rs))
    ≡ option_map (λ (o : Record). o.run) (busy_among first count (laid_out r ++ flat rs))) [
      | true ↦ λ going.
          found-first first count r rs ends
          ∙ ap (λ (b : Bool). cond b (Some r.ticket) later) (sym blocks)
          ∙ ap (λ (o : Option ℕ). cond any (Some r.ticket) o) (flat-busy first count rs some all.1)
          ∙ ap (λ (k : ℕ). cond any (Some k) (option_map (λ (o : Record). o.run) (busy_among first count (flat rs)))) (sym all.0.named)
          ∙ sym (going-found first count r.run r.ticket r.block r.owed r.entry (each_block r.data) (flat rs) going)
      | false ↦ λ idle.
          ap (λ (b : Bool). option_map (λ (x : Record). x.ticket) (cond b (Some r) (run_busy_among first count rs))) (and_false ends)
          ∙ flat-busy first count rs some all.1
          ∙ ap (λ (o : Option Record). option_map (λ (x : Record). x.run) o) (sym (idle-found first count r.run r.ticket r.block r.owed r.entry (each_block r.data) (flat rs) idle))
    ] refl
  where
    ends : Bool
    ends = nat_lt first (r.block + blocks_in r.data) && nat_lt r.block (first + count)

    any : Bool
    any = any_among first count r.block (length (each_block r.data))

    later : Option ℕ
    later = option_map (λ (x : Record). x.ticket) (run_busy_among first count rs)

    blocks : any ≡ ends
    blocks = ap (λ (n : ℕ). any_among first count r.block n) (length-each r.data)
        ∙ some-meets first count r.block (blocks_in r.data) some all.0.filled.some

-- a run without an entry lands, and its blocks do
waiting-lands : (next run ticket block : ℕ) (owed : List Bool) (ds : List RecordData)
    (ys : List Record)
    → landed_all next (laid_from run ticket block owed None ds ++ ys)
    ≡ laid_from run ticket block owed (Some next) ds ++ landed_all (next + length ds) ys
waiting-lands next run ticket block owed [] ys =
    let e : next ≡ next + 0 = omega arith in ap (λ (k : ℕ). landed_all k ys) e
waiting-lands next run ticket block owed (d ∷ ds) ys =
    let e : next + 1 + length ds ≡ next + suc (length ds) = omega arith in
    ap (λ (xs : List Record). head_of run ticket block owed (Some next) d ∷ xs)
    (waiting-lands (next + 1) run (ticket + 1) (block + 1) owed ds ys
    ∙ ap (λ (k : ℕ). laid_from run (ticket + 1) (block + 1) owed (Some (next + 1)) ds ++ landed_all k ys) e)

landed-stays : (next number run ticket block : ℕ) (owed : List Bool) (ds : List RecordData)
    (ys : List Record)
    → landed_all next (laid_from run ticket block owed (Some number) ds ++ ys)
    ≡ laid_from run ticket block owed (Some number) ds ++ landed_all next ys
landed-stays next number run ticket block owed [] ys = refl
landed-stays next number run ticket block owed (d ∷ ds) ys =
    ap (λ (xs : List Record). head_of run ticket block owed (Some number) d ∷ xs)
    (landed-stays next (number + 1) run (ticket + 1) (block + 1) owed ds ys)

-- all runs without an entry land: so do all blocks without one
pub flat-landed_all : (next : ℕ) (rs : List Record)
    → flat (runs_landed next rs) ≡ landed_all next (flat rs)
flat-landed_all next [] = refl
flat-landed_all next (r ∷ rs) =
    elim r.entry as (λ e. flat (cond (is_none e) (with_entry next r ∷ runs_landed (next + blocks_in r.data) rs) (r' e ∷ runs_landed next rs))
    ≡ landed_all next (laid_out (r' e) ++ flat rs)) [
      | None ↦
          ap (λ (xs : List Record). laid_out (with_entry next r) ++ xs)
          (flat-landed_all (next + blocks_in r.data) rs
          ∙ ap (λ (n : ℕ). landed_all (next + n) (flat rs)) (sym (length-each r.data)))
          ∙ sym (waiting-lands next r.run r.ticket r.block r.owed (each_block r.data) (flat rs))
      | Some number ↦
          ap (λ (xs : List Record). laid_out (r' (Some number)) ++ xs) (flat-landed_all next rs)
          ∙ sym (landed-stays next number r.run r.ticket r.block r.owed (each_block r.data) (flat rs))
    ]
  where
    r' : Option ℕ → Record
    r' e = record r { entry = e }

-- as many blocks have no entry
waiting-count : (run ticket block : ℕ) (owed : List Bool) (ds : List RecordData) (ys : List Record)
    → unlanded (laid_from run ticket block owed None ds ++ ys) ≡ length ds + unlanded ys
waiting-count run ticket block owed [] ys = omega arith
waiting-count run ticket block owed (d ∷ ds) ys =
    let tail : List Record = laid_from run (ticket + 1) (block + 1) owed None ds in
    let counts = sum_by-cons waits (head_of run ticket block owed None d) (tail ++ ys) in
    omega (arith, counts, waiting-count run (ticket + 1) (block + 1) owed ds ys)

landed-count : (number run ticket block : ℕ) (owed : List Bool) (ds : List RecordData)
    (ys : List Record)
    → unlanded (laid_from run ticket block owed (Some number) ds ++ ys) ≡ unlanded ys
landed-count number run ticket block owed [] ys = refl
landed-count number run ticket block owed (d ∷ ds) ys =
    let tail : List Record = laid_from run (ticket + 1) (block + 1) owed (Some (number + 1)) ds in
    let counts = sum_by-cons waits (head_of run ticket block owed (Some number) d) (tail ++ ys) in
    omega (arith, counts, landed-count (number + 1) run (ticket + 1) (block + 1) owed ds ys)

pub flat-unlanded : (rs : List Record) → unlanded (flat rs) ≡ unlanded_blocks rs
flat-unlanded [] = refl
flat-unlanded (r ∷ rs) =
    elim r.entry as (λ e. unlanded (laid_from r.run r.ticket r.block r.owed e (each_block r.data) ++ flat rs)
    ≡ cond {A = ℕ} (is_none e) (blocks_in r.data) 0 + unlanded_blocks rs) [
      | None ↦ omega (arith, waiting-count r.run r.ticket r.block r.owed (each_block r.data) (flat rs), length-each r.data, flat-unlanded rs)
      | Some number ↦ omega (arith, landed-count number r.run r.ticket r.block r.owed (each_block r.data) (flat rs), flat-unlanded rs)
    ]
