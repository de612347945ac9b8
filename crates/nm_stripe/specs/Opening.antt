-- Which legs a stripe opens with.
use Rattle.std.specs.Prelude.{◌≡◌, ℕ, ◌<◌, true}
use Rattle.nm_rules.specs.Opening.{has_bit}

-- the bits name one of so many legs
pub record NamesALeg (bits legs : ℕ) : Type 0 where
  pub leg : ℕ
  pub inside : leg < legs
  pub named : has_bit bits leg ≡ true
