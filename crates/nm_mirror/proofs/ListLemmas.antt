-- Lists.
use Rattle.std.proofs.Common.{◌≡◌, ℕ, zero, suc, List, [], ◌∷◌, Option, None, Some, refl, sym, ap, slice_get, slice_set}

-- what an option has, or else this
abbrev or : {X : Type 0} → X → Option X → X
or x None = x
or x (Some y) = y

-- an element put in its own place changes nothing
pub set-own : {X : Type 0} (xs : List X) (k : ℕ) (x : X) → slice_get xs k ≡ Some x → slice_set xs k x ≡ xs
set-own [] k x is = refl
set-own (y ∷ ys) zero x is = ap (λ z. z ∷ ys) (sym (ap (or y) is))
set-own (y ∷ ys) (suc k) x is = ap (λ l. y ∷ l) (set-own ys k x is)
