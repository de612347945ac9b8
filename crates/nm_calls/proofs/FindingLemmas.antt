-- The first place at which a test passes has what is found.
use Rattle.std.proofs.Common.{◌≡◌, ◌≢◌, ℕ, zero, suc, ◌<◌, Bool, true, false, All, List, [], ◌∷◌, None, Option, Some, cond, length, refl, ap, ◌∙◌, arith, get_or, ne_eqb}
use Rattle.nm_calls.specs.CallsOut.{ReadOut, find_read}

pub first-found : {X : Type 0} (p : X → Bool) (find : List X → Option X) → ((x : X) (xs : List X) → find (x ∷ xs) ≡ cond (p x) (Some x) (find xs)) → (xs : List X) (i : ℕ) (d : X) → i < length xs → p (get_or xs i d) ≡ true
    → ((k : ℕ) → k < i → p (get_or xs k d) ≡ false) → find xs ≡ Some (get_or xs i d)
first-found p find step [] i d inside is before = absurd (let e : ⊥ = omega (arith, inside) in e)
first-found p find step (x ∷ xs) zero d inside is before = step x xs ∙ ap (λ (b : Bool). cond b (Some x) (find xs)) is
first-found p find step (x ∷ xs) (suc i) d inside is before =
    step x xs ∙ ap (λ (b : Bool). cond b (Some x) (find xs)) (before 0 (omega arith))
    ∙ first-found p find step xs i d (omega (arith, inside)) is (λ k low. before (suc k) (omega (arith, low)))

-- where none passes none is found
pub none-found : (t : ℕ) (xs : List ReadOut) → All (λ (x : ReadOut). x.ticket ≢ t) xs → find_read t xs ≡ None
none-found t [] all = refl
none-found t (x ∷ xs) all =
    ap (λ (b : Bool). cond b (Some x) (find_read t xs)) (ne_eqb x.ticket t (all 0 x (omega arith)))
    ∙ none-found t xs (λ k d low. all (suc k) d (omega (arith, low)))
