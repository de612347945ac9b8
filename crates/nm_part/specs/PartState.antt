-- What a contract sees of a part.
use Rattle.std.specs.Prelude.{ℕ}

-- the part of a pass in one stripe: the stripe's number, the number that no entry which it is given
-- from now on is below, and how many entries it was given
pub record PartState : Type 0 where
  pub stripe : ℕ
  pub front : ℕ
  pub count : ℕ
