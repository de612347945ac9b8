-- Numbers that are those of their places.
use Rattle.std.specs.Prelude.{◌≡◌, ℕ, List, slice_get, Some}

-- each number is that of its place in the list
abbrev pub AreInOrder : List ℕ → Type 0
AreInOrder numbers =
    (place number : ℕ) → slice_get numbers place ≡ Some number → number ≡ place
