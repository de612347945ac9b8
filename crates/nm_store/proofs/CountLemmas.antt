-- How many writes are under way in each region, after each change of the records.
use Rattle.std.proofs.Common.{◌≡◌, ◌≢◌, ℕ, zero, suc, ◌+◌, ◌<◌, ◌≤◌, ◌/◌, ◌==◌, ◌&&◌, Bool, true, false, cond, List, [], ◌∷◌, length, refl, ap, ◌∙◌, arith, get_or, slice_set, replicate}
use Rattle.std.proofs.lemmas.List.Sums.{sum_by-cons}
use Rattle.std.proofs.lemmas.Bool.Decides.{nat_tests}
use Rattle.nm_fanout.specs.declared.write_record.Record.{Record}
use Rattle.nm_fanout.specs.Record.{is_under_way}
use Rattle.nm_rules.specs.State.{writes_in, writes_from}

-- regions from this one on whose counts are alike
pub alike-from : (size n k : ℕ) (new old : List Record) → ((m : ℕ) → k ≤ m → writes_in size m new ≡ writes_in size m old) → writes_from size n k new ≡ writes_from size n k old
alike-from size zero k new old same = refl
alike-from size (suc n) k new old same =
    let rest : writes_from size n (k + 1) new ≡ writes_from size n (k + 1) old = alike-from size n (k + 1) new old (λ m h. same m (omega (arith, h))) in
    ap (λ (c : ℕ). c ∷ writes_from size n (k + 1) new) (same k (omega arith)) ∙ ap (λ (cs : List ℕ). writes_in size k old ∷ cs) rest

-- where they are alike but in one region, that one's count is set
pub set-one : (size n k d j : ℕ) (new old : List Record) → j ≡ k + d → ((m : ℕ) → m ≢ j → writes_in size m new ≡ writes_in size m old) → writes_from size n k new ≡ slice_set (writes_from size n k old) d (writes_in size j new)
set-one size zero k d j new old at other = refl
set-one size (suc n) k zero j new old at other =
    let here : k ≡ j = omega (arith, at) in
    let rest : writes_from size n (k + 1) new ≡ writes_from size n (k + 1) old = alike-from size n (k + 1) new old (λ m h. other m (λ e. omega (arith, h, e, at))) in
    ap (λ (m : ℕ). writes_in size m new ∷ writes_from size n (k + 1) new) here ∙ ap (λ (cs : List ℕ). writes_in size j new ∷ cs) rest
set-one size (suc n) k (suc d) j new old at other =
    let rest : writes_from size n (k + 1) new ≡ slice_set (writes_from size n (k + 1) old) d (writes_in size j new) = set-one size n (k + 1) d j new old (omega (arith, at)) other in
    ap (λ (c : ℕ). c ∷ writes_from size n (k + 1) new) (other k (λ e. omega (arith, e, at))) ∙ ap (λ (cs : List ℕ). writes_in size k old ∷ cs) rest

-- the count of one region
pub get-one : (size n k d j : ℕ) (rs : List Record) → j ≡ k + d → d < n → get_or (writes_from size n k rs) d 0 ≡ writes_in size j rs
get-one size zero k d j rs at inside = absurd (omega (arith, inside))
get-one size (suc n) k zero j rs at inside = ap (λ (m : ℕ). writes_in size m rs) (omega (arith, at))
get-one size (suc n) k (suc d) j rs at inside = get-one size n (k + 1) d j rs (omega (arith, at)) (omega (arith, inside))

-- one for a record under way in the region, else none
abbrev pub one : ℕ → ℕ → Record → ℕ
one size region r = cond (is_under_way r && (r.block / size == region)) 1 0

one-most : (b : Bool) → cond b 1 0 ≤ 1
one-most true = omega arith
one-most false = omega arith

pub one-here : (size region : ℕ) (r : Record) → is_under_way r ≡ true → r.block / size ≡ region → one size region r ≡ 1
one-here size region r busy at =
    let same : (r.block / size == region) ≡ true = grind (arith, nat_tests, at) in
    rw (busy, same) refl

and-false : (a : Bool) → (a && false) ≡ false
and-false true = refl
and-false false = refl

none-of : (a b : Bool) → b ≡ false → ◌≡◌ {A = ℕ} (cond (a && b) 1 0) 0
none-of a b off =
    let never : (a && b) ≡ false = rw off (and-false a) in
    ap (λ (v : Bool). cond v 1 0) never

pub one-other : (size region : ℕ) (r : Record) → region ≢ r.block / size → one size region r ≡ 0
one-other size region r ne =
    let differs : (r.block / size == region) ≡ false = grind (arith, nat_tests, ne) in
    none-of (is_under_way r) (r.block / size == region) differs

-- there are no more of them than records
pub writes-few : (size region : ℕ) (rs : List Record) → writes_in size region rs ≤ length rs
writes-few size region [] = omega arith
writes-few size region (r ∷ rs) =
    omega (arith, sum_by-cons (one size region) r rs, one-most (is_under_way r && (r.block / size == region)), writes-few size region rs)

-- where there are no records no write is under way
pub writes-none : (size n k : ℕ) → writes_from size n k [] ≡ replicate n 0
writes-none size zero k = refl
writes-none size (suc n) k = ap (λ (cs : List ℕ). 0 ∷ cs) (writes-none size n (k + 1))
