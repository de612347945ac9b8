-- Times by powers of two.
use Rattle.std.specs.Prelude.{◌≤◌, ◌<◌, ℕ, ◌-◌, ◌^◌}

-- a time of so many microseconds belongs to this bucket of 26: it is below 2 to the bucket's
-- number, and at least half of that; bucket 0 has what took none, the last one has all above
pub record IsBucketOf (microseconds bucket : ℕ) : Type 0 where
  pub bound : bucket ≤ 25
  pub below : bucket < 25 → microseconds < 2 ^ bucket
  pub from : 0 < bucket → 2 ^ (bucket - 1) ≤ microseconds
