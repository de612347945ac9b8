-- A run has a marked block where one of the regions that it lies in was written.
use Rattle.std.proofs.Common.{◌≡◌, ⊎_elim, inl, inr, ◌⊎◌, ℕ, zero, suc, ◌+◌, ◌-◌, ◌*◌, ◌/◌, ◌<◌, ◌≤◌, ◌||◌, Bool, true, false, List, [], ◌∷◌, take, drop, max, refl, ap, sym, ◌∙◌, subst, arith}
use Rattle.std.specs.List.{list_any}
use Rattle.std.proofs.Math.Nat.{div-mul-le_self}
use Rattle.std.proofs.lemmas.Nat.{le-div, mul-le}
use Rattle.std.proofs.lemmas.Bool.{cases_lt}
use Rattle.nm_leg.specs.Leg.{is_marked_in}
use Rattle.nm_file_leg.specs.FileLeg.{written_from}
use Rattle.nm_file_leg.specs.Remembered.{Remembered, WritesNone, WritesOne, is_written}
use Rattle.nm_file_leg.proofs.RuleLemmas.{before-end, div-mono}

-- a block between a region's first and its end lies in it
div-is : (r size k : ℕ) → 1 ≤ size → r * size ≤ k → k < (r + 1) * size → k / size ≡ r
div-is r size k some low high =
    let above : r ≤ k / size = le-div r k size some low in
    let whole : k / size * size ≤ k = div-mul-le_self k size in
    ⊎_elim
    (λ (more : r < k / size).
    let wide : (r + 1) * size ≤ k / size * size = mul-le (r + 1) size (k / size) size (omega (arith, more)) (omega arith) in
    absurd (let e : ⊥ = omega (arith, wide, whole, high) in e))
    (λ (most : k / size ≤ r). omega (arith, above, most))
    (cases_lt r (k / size))

module _ (memory : Remembered) where
  abbrev mark : ℕ → Bool
  mark k = is_written (k / memory.region) memory

  drop-written : (n block at : ℕ) → drop at (written_from memory n block) ≡ written_from memory (n - at) (block + at)
  drop-written n block zero =
      ap (λ (m : ℕ). written_from memory m block) (let e : n ≡ n - 0 = omega arith in e)
      ∙ ap (λ (b : ℕ). written_from memory (n - 0) b) (let e : block ≡ block + 0 = omega arith in e)
  drop-written zero block (suc at) = ap (λ (m : ℕ). written_from memory m (block + suc at)) (let e : 0 ≡ 0 - suc at = omega arith in e)
  drop-written (suc n) block (suc at) =
      drop-written n (block + 1) at
      ∙ ap (λ (m : ℕ). written_from memory m (block + 1 + at)) (let e : n - at ≡ suc n - suc at = omega arith in e)
      ∙ ap (λ (b : ℕ). written_from memory (suc n - suc at) b) (let e : block + 1 + at ≡ block + suc at = omega arith in e)

  take-written : (n block count : ℕ) → count ≤ n → take count (written_from memory n block) ≡ written_from memory count block
  take-written n block zero fits = refl
  take-written zero block (suc count) fits = absurd (let e : ⊥ = omega (arith, fits) in e)
  take-written (suc n) block (suc count) fits = ap (λ (rest : List Bool). mark block ∷ rest) (take-written n (block + 1) count (omega (arith, fits)))

  -- the marks of a run are those from its first block on
  marks-of : (n at count : ℕ) → at + count ≤ n → is_marked_in at count (written_from memory n 0) ≡ list_any (λ marked. marked) (written_from memory count at)
  marks-of n at count fits =
      let e : 0 + at ≡ at = omega arith in
      ap (λ (marks : List Bool). list_any (λ marked. marked) (take count marks)) (drop-written n 0 at)
      ∙ ap (λ (b : ℕ). list_any (λ marked. marked) (take count (written_from memory (n - at) b))) e
      ∙ ap (λ (marks : List Bool). list_any (λ marked. marked) marks) (take-written (n - at) at count (omega (arith, fits)))

  or-true : (a b : Bool) → a ≡ true → (a || b) ≡ true
  or-true true b is = refl
  or-true false b is = absurd (let e : ⊥ = cc in e)

  or-other : (a b : Bool) → b ≡ true → (a || b) ≡ true
  or-other true b is = refl
  or-other false b is = is

  or-none : (a b : Bool) → a ≡ false → b ≡ false → (a || b) ≡ false
  or-none true b is none = absurd (let e : ⊥ = cc in e)
  or-none false b is none = none

  any-none : (count block : ℕ) → ((k : ℕ) → block ≤ k → k < block + count → mark k ≡ false) → list_any (λ marked. marked) (written_from memory count block) ≡ false
  any-none zero block each = refl
  any-none (suc count) block each =
      or-none (mark block) (list_any (λ marked. marked) (written_from memory count (block + 1))) (each block (omega arith) (omega arith))
      (any-none count (block + 1) (λ k above below. each k (omega (arith, above)) (omega (arith, below))))

  any-some : (count block k : ℕ) → block ≤ k → k < block + count → mark k ≡ true → list_any (λ marked. marked) (written_from memory count block) ≡ true
  any-some zero block k above below is = absurd (let e : ⊥ = omega (arith, above, below) in e)
  any-some (suc count) block k above below is =
      ⊎_elim
      (λ (later : block < k). or-other (mark block) (list_any (λ marked. marked) (written_from memory count (block + 1))) (any-some count (block + 1) k (omega (arith, later)) (omega (arith, below)) is))
      (λ (here : k ≤ block).
      let same : k ≡ block = omega (arith, here, above) in
      or-true (mark block) (list_any (λ marked. marked) (written_from memory count (block + 1))) (subst (λ (b : ℕ). mark b ≡ true) same is))
      (cases_lt block k)

  module _ (some : 1 ≤ memory.region) (n at count : ℕ) (fits : at + count ≤ n) where
    -- where no region of the run was written, none of its blocks is marked
    pub marked-none : 0 < count → WritesNone (at / memory.region) ((at + count - 1) / memory.region + 1) memory → is_marked_in at count (written_from memory n 0) ≡ false
    marked-none more none =
        marks-of n at count fits
        ∙ any-none count at (λ k above below.
        let first : at / memory.region ≤ k / memory.region = div-mono at k memory.region some above in
        let last : k / memory.region ≤ (at + count - 1) / memory.region = div-mono k (at + count - 1) memory.region some (omega (arith, below)) in
        none (k / memory.region) first (omega (arith, last)))

    -- where one was, one of them is
    pub marked-some : 0 < count → WritesOne (at / memory.region) ((at + count - 1) / memory.region + 1) memory → is_marked_in at count (written_from memory n 0) ≡ true
    marked-some more one =
        let r : ℕ = one.region in
        let size : ℕ = memory.region in
        let k : ℕ = max at (r * size) in
        let last : ℕ = at + count - 1 in
        let whole : last / size * size ≤ last = div-mul-le_self last size in
        let low : r * size ≤ last / size * size = mul-le r size (last / size) size (omega (arith, one.below)) (omega arith) in
        let ends : at < (at / size + 1) * size = before-end size (at + 1) at some (omega arith) in
        let wide : (at / size + 1) * size ≤ (r + 1) * size = mul-le (at / size + 1) size (r + 1) size (omega (arith, one.above)) (omega arith) in
        let spread : (r + 1) * size ≡ r * size + size = grind arith in
        let is : k / size ≡ r = div-is r size k some (omega arith) (omega (arith, ends, wide, spread, some)) in
        marks-of n at count fits
        ∙ any-some count at k (omega arith) (omega (arith, whole, low, more)) (ap (λ (i : ℕ). is_written i memory) is ∙ one.written)
