-- Bytes that were written one part after the other were written as a whole.
use Rattle.std.proofs.Common.{◌≡◌, ℕ, ◌+◌, ◌-◌, List, ◌++◌, length, take, drop, Option, Some, None, sym, ap, ◌∙◌}
use Rattle.std.proofs.Math.Seq.{take-add}
use Rattle.std.proofs.lemmas.List.{append_assoc, take_rest}
use Rattle.std.specs.Io.KnownBytes.{Appends}

-- n bytes more, of those after the first i
pub appends-more : (old mid new : Option (List ℕ)) (xs : List ℕ) (i n : ℕ) → Appends old mid (take i xs)
    → Appends mid new (take n (take (length xs - i) (drop i xs))) → Appends old new (take (i + n) xs)
appends-more None mid new xs i n before now = tt
appends-more (Some a) None new xs i n before now = absurd before
appends-more (Some a) (Some b) None xs i n before now = absurd now
appends-more (Some a) (Some b) (Some c) xs i n before now =
    let part : take i xs ++ take n (take (length xs - i) (drop i xs)) ≡ take (i + n) xs =
    ap (λ (rest : List ℕ). take i xs ++ take n rest) (take_rest xs i) ∙ sym (take-add i n xs) in
    now
    ∙ ap (λ (first : List ℕ). first ++ take n (take (length xs - i) (drop i xs))) before
    ∙ append_assoc a (take i xs) (take n (take (length xs - i) (drop i xs)))
    ∙ ap (λ (whole : List ℕ). a ++ whole) part
