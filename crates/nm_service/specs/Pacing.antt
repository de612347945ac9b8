-- What is done at most once in so many units of time.
use Rattle.std.specs.Prelude.{◌≤◌, ℕ, ◌+◌, Option, Some, None, ⊤}

-- it is due at this time: it was not done yet, or last so long ago
abbrev pub IsDueAfter : (length : ℕ) → Option ℕ → ℕ → Type 0
IsDueAfter length None now = ⊤
IsDueAfter length (Some last) now = last + length ≤ now
