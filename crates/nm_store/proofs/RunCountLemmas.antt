-- The region table after a run begins counts each of its blocks.
use Rattle.std.proofs.Common.{◌≡◌, ◌≢◌, ℕ, true, refl, ◌+◌, ◌<◌, ◌/◌, List, [], ◌∷◌, ◌++◌, length, ap, ◌∙◌, arith, get_or, slice_set}
use Rattle.std.proofs.lemmas.List.Sums.{sum_by-append, sum_by-cons}
use Rattle.nm_fanout.specs.declared.write_record.Record.{Record}
use Rattle.nm_fanout.specs.Record.{is_under_way}
use Rattle.nm_rules.specs.State.{writes_in, writes_from}
use Rattle.nm_store.proofs.CountLemmas.{get-one, one, one-here, one-other, set-one}

-- each is under way in this region
abbrev pub AllUnderWay : ℕ → ℕ → List Record → Type 0
AllUnderWay size region [] = Unit {0}
AllUnderWay size region (r ∷ rs) =
    (is_under_way r ≡ true) × (r.block / size ≡ region) × AllUnderWay size region rs

-- so the region counts them all
all-here : (size region : ℕ) (os : List Record) → AllUnderWay size region os
    → writes_in size region os ≡ length os
all-here size region [] h = refl
all-here size region (o ∷ os) h = omega (
  arith,
  sum_by-cons (one size region) o os,
  one-here size region o h.0 h.1,
  all-here size region os h.2,
)

-- and every other none
none-here : (size region other : ℕ) (os : List Record) → AllUnderWay size region os
    → other ≢ region → writes_in size other os ≡ 0
none-here size region other [] h ne = refl
none-here size region other (o ∷ os) h ne = omega (
  arith,
  sum_by-cons (one size other) o os,
  one-other size other o (λ e. ne (e ∙ h.1)),
  none-here size region other os h.2 ne,
)

-- a run begins
pub writes-begun_each : (size n region : ℕ) (os rs : List Record) → AllUnderWay size region os
    → region < n
    → writes_from size n 0 (rs ++ os) ≡ slice_set (writes_from size n 0 rs) region
    (get_or (writes_from size n 0 rs) region 0 + length os)
writes-begun_each size n region os rs h inside =
    let all : (m : ℕ) → writes_in size m (rs ++ os) ≡ writes_in size m rs + writes_in size m os =
    λ m. sum_by-append (one size m) rs os in
    let at : region ≡ 0 + region = omega arith in
    let others : (m : ℕ) → m ≢ region → writes_in size m (rs ++ os) ≡ writes_in size m rs =
    λ m ne. omega (arith, all m, none-here size region m os h ne) in
    let here : writes_in size region (rs ++ os)
    ≡ get_or (writes_from size n 0 rs) region 0 + length os = omega
    (arith, all region, all-here size region os h, get-one size n 0 region region rs at inside) in
    set-one size n 0 region region (rs ++ os) rs at others
    ∙ ap (λ (c : ℕ). slice_set (writes_from size n 0 rs) region c) here
