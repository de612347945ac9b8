-- How many blocks of the runs have no entry yet, after each change at a place.
use Rattle.std.proofs.Common.{◌≡◌, ℕ, ◌+◌, ◌*◌, ◌≤◌, zero, suc, cond, List, [], ◌∷◌, ◌++◌, length, set, Option, None, Some, is_none, refl, ap, arith}
use Rattle.std.specs.Option.{IsSome}
use Rattle.std.specs.List.{remove, slice_get}
use Rattle.nm_fanout.specs.declared.write_record.Record.{Record}
use Rattle.nm_fanout.specs.Record.{waiting}
use Rattle.nm_fanout.specs.RecordData.{blocks_in}
use Rattle.nm_fanout.specs.Records.{left_by}
use Rattle.nm_fanout.specs.Runs.{AllRuns, unlanded_blocks}

-- a run whose first entry is this one
abbrev waiting_at : Record → Option ℕ → ℕ
waiting_at r entry = cond (is_none entry) (blocks_in r.data) 0

pub waiting-None : (r : Record) → r.entry ≡ None → waiting r ≡ blocks_in r.data
waiting-None r h = ap (λ (entry : Option ℕ). waiting_at r entry) h

some-entry : (r : Record) (entry : Option ℕ) → IsSome entry → waiting_at r entry ≡ 0
some-entry r None h = absurd cc
some-entry r (Some number) h = refl

pub waiting-Some : (r : Record) → IsSome r.entry → waiting r ≡ 0
waiting-Some r h = some-entry r r.entry h

-- all of its blocks wait, or none
pub waiting-most : (r : Record) → waiting r ≤ blocks_in r.data
waiting-most r = at-most r.entry
  where
    at-most : (entry : Option ℕ) → waiting_at r entry ≤ blocks_in r.data
    at-most None = omega arith
    at-most (Some number) = omega arith

-- a write begins
pub waiting-push : (rs : List Record) (r : Record)
    → unlanded_blocks (rs ++ r ∷ []) ≡ unlanded_blocks rs + waiting r
waiting-push [] r = omega arith
waiting-push (x ∷ rs) r = omega (arith, waiting-push rs r)

-- another record stands at a place
pub waiting-set : (rs : List Record) (i : ℕ) (x y : Record) → slice_get rs i ≡ Some x
    → unlanded_blocks (set rs i y) + waiting x ≡ unlanded_blocks rs + waiting y
waiting-set [] i x y there = absurd cc
waiting-set (r ∷ rs) zero x y there =
    let e : r ≡ x = cc in
    omega (arith, ap (λ (z : Record). waiting z) e)
waiting-set (r ∷ rs) (suc i) x y there = omega (arith, waiting-set rs i x y there)

-- the record at a place is counted
pub waiting-at : (rs : List Record) (i : ℕ) (x : Record) → slice_get rs i ≡ Some x
    → waiting x ≤ unlanded_blocks rs
waiting-at [] i x there = absurd cc
waiting-at (r ∷ rs) zero x there =
    let e : r ≡ x = cc in
    omega (arith, ap (λ (z : Record). waiting z) e)
waiting-at (r ∷ rs) (suc i) x there = omega (arith, waiting-at rs i x there)

-- a record is taken away
pub waiting-remove : (rs : List Record) (i : ℕ) (x : Record) → slice_get rs i ≡ Some x
    → unlanded_blocks (remove rs i) + waiting x ≡ unlanded_blocks rs
waiting-remove [] i x there = absurd cc
waiting-remove (r ∷ rs) zero x there =
    let e : r ≡ x = cc in
    omega (arith, ap (λ (z : Record). waiting z) e)
waiting-remove (r ∷ rs) (suc i) x there = omega (arith, waiting-remove rs i x there)

-- no write lands as a leg leaves
pub waiting-left_by : (leg : ℕ) (rs : List Record)
    → unlanded_blocks (left_by leg rs) ≡ unlanded_blocks rs
waiting-left_by leg [] = refl
waiting-left_by leg (r ∷ rs) = ap (λ n. waiting r + n) (waiting-left_by leg rs)

-- at most 128 blocks a run
pub waiting-few : (rs : List Record) → AllRuns rs → unlanded_blocks rs ≤ 128 * length rs
waiting-few [] h = omega arith
waiting-few (r ∷ rs) h =
    let most = h.0.filled.most in
    omega (arith, most, waiting-most r, waiting-few rs h.1)
