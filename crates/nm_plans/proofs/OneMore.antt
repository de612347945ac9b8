-- What holds of each element of a list at its place holds of the list with one more.
use Rattle.std.proofs.Common.{◌≡◌, ⊎_elim, ℕ, List, [], ◌∷◌, ◌++◌, length, Some, slice_get, slice_index_or, sym, ap, ◌∙◌, subst, arith}
use Rattle.std.proofs.lemmas.Bool.{cases_lt}
use Rattle.std.proofs.lemmas.List.{get_or_append_left, get_or_at, length-append}
use Rattle.std.proofs.lemmas.Option.{get_or_from_slice_get, slice_get-get_or, slice_get_within}

pub one_more : {A : Type 0} (P : ℕ → A → Type 0) (xs : List A) (x : A) → ((k : ℕ) (y : A) → slice_get xs k ≡ Some y → P k y) → P (length xs) x
    → (k : ℕ) (y : A) → slice_get (xs ++ x ∷ []) k ≡ Some y → P k y
one_more P xs x each here k y found =
    let all = xs ++ x ∷ [] in
    let is : slice_index_or all k y ≡ y = get_or_from_slice_get all k y y found in
    ⊎_elim
    (λ inside. each k y (slice_get-get_or xs k y inside ∙ ap Some (sym (get_or_append_left xs (x ∷ []) y k inside) ∙ is)))
    (λ past.
    let last : k ≡ length xs = omega (arith, past, slice_get_within all k y found, length-append xs (x ∷ [])) in
    subst (λ (n : ℕ). P n y) (sym last) (subst (P (length xs)) (sym (get_or_at xs x [] y k (sym last)) ∙ is) here))
    (cases_lt k (length xs))
