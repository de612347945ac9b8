-- Lines that wait to be written.
use Rattle.std.specs.Prelude.{◌≡◌, ◌<◌, ℕ, ◌+◌, ◌-◌, ◌^◌, List, [], ◌∷◌, ◌++◌, length, min}

-- the lines that wait, the oldest first, and how many were lost since that was last told
pub record Lines (Line : Type 0) : Type 0 where
  pub waiting : List Line
  pub lost : ℕ

-- the line waits behind the others; where 256 wait it is lost instead, and counted
pub record Takes {Line : Type 0} (old : Lines Line) (line : Line) (new : Lines Line) : Type 0 where
  pub room : length old.waiting < 256
      → (new.waiting ≡ old.waiting ++ line ∷ []) × (new.lost ≡ old.lost)
  pub full : ¬ (length old.waiting < 256)
      → (new.waiting ≡ old.waiting) × (new.lost ≡ min (old.lost + 1) (2 ^ 64 - 1))
