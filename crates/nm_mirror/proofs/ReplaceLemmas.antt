-- New legs that are taken from a list, the last of what is left first.
use Rattle.std.proofs.Common.{◌≡◌, ℕ, List, [], ◌∷◌, ◌++◌, length, reverse, slice_get, Some, append_assoc, refl, sym, ap, subst, ◌∙◌}
use Rattle.std.proofs.lemmas.List.{reverse-append}

module _ {A : Type 0} where
  in-the-midst : (xs ys : List A) (x : A) → slice_get (xs ++ x ∷ ys) (length xs) ≡ Some x
  in-the-midst [] ys x = refl
  in-the-midst (z ∷ xs) ys x = in-the-midst xs ys x

  module _ (parts done rest left : List A) (part : A) (are : parts ≡ done ++ reverse rest) (last : rest ≡ left ++ part ∷ []) where
    split-so : parts ≡ done ++ part ∷ reverse left
    split-so = are ∙ ap (λ (l : List A). done ++ reverse l) last ∙ ap (λ (l : List A). done ++ l) (reverse-append left (part ∷ []))

    -- the next is that of its place
    pub next-part : (number : ℕ) → length done ≡ number → slice_get parts number ≡ Some part
    next-part number long = subst (λ (n : ℕ). slice_get parts n ≡ Some part) long
        (subst (λ (l : List A). slice_get l (length done) ≡ Some part) (sym split-so) (in-the-midst done (reverse left) part))

    -- and is taken
    pub one-done : parts ≡ (done ++ part ∷ []) ++ reverse left
    one-done = split-so ∙ sym (append_assoc done (part ∷ []) (reverse left))
