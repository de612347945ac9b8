-- The bytes of rooms, and of those that follow them.
use Rattle.std.specs.Prelude.{◌≡◌, ℕ, ◌+◌, List, ◌++◌, sum_by}
use Rattle.std.proofs.lemmas.List.Sums.{sum_by-append}

pub sum_of_both : {X : Type 0} (f : X → ℕ) → (xs ys : List X)
    → sum_by f (xs ++ ys) ≡ sum_by f xs + sum_by f ys
sum_of_both f xs ys = sum_by-append f xs ys
