-- An array read block by block, and two arrays that read alike are one.
use Rattle.std.proofs.Common.{◌≡◌, ℕ, zero, suc, ◌<◌, List, [], ◌∷◌, length, refl, ap, arith, slice_set, slice_get}
use Rattle.std.specs.Prelude.{Some}
use Rattle.std.proofs.lemmas.Option.{same_Some}

-- the block that was set reads as it was set
pub slice_get-set_same : {X : Type 0} (xs : List X) (i : ℕ) (x : X) → i < length xs → slice_get (slice_set xs i x) i ≡ Some x
slice_get-set_same [] i x h = absurd (omega arith)
slice_get-set_same (y ∷ ys) zero x h = refl
slice_get-set_same (y ∷ ys) (suc i) x h = slice_get-set_same ys i x (omega arith)

-- every other block reads as before
pub slice_get-set_other : {X : Type 0} (xs : List X) (i j : ℕ) (x : X) → (i ≡ j → ⊥) → slice_get (slice_set xs i x) j ≡ slice_get xs j
slice_get-set_other [] i j x h = refl
slice_get-set_other (y ∷ ys) zero zero x h = absurd (h refl)
slice_get-set_other (y ∷ ys) zero (suc j) x h = refl
slice_get-set_other (y ∷ ys) (suc i) zero x h = refl
slice_get-set_other (y ∷ ys) (suc i) (suc j) x h = slice_get-set_other ys i j x (λ e. h (ap (λ n. suc n) e))

-- two lists that read alike at each place are one
pub same_by_slice_get : {X : Type 0} (xs ys : List X) → ((i : ℕ) → slice_get xs i ≡ slice_get ys i) → xs ≡ ys
same_by_slice_get [] [] h = refl
same_by_slice_get [] (y ∷ ys) h = absurd (let e = h 0 in cc)
same_by_slice_get (x ∷ xs) [] h = absurd (let e = h 0 in cc)
same_by_slice_get (x ∷ xs) (y ∷ ys) h =
    let first : x ≡ y = same_Some x y (h 0) in
    let rest : xs ≡ ys = same_by_slice_get xs ys (λ i. h (suc i)) in
    cc
