-- What the end of a stripe tells.
use Rattle.std.specs.Prelude.{ℕ, ◌-◌, length}
use Rattle.nm_fanout.specs.Records.{unlanded}
use Rattle.nm_rules.specs.State.{StripeState}

-- the stripe's number, how many entries it has had, its records left, and how many of them have an
-- entry
pub record EndOf : Type 0 where
  pub stripe : ℕ
  pub total : ℕ
  pub left : ℕ
  pub landed : ℕ

-- the end of a stripe
abbrev pub end_of : {L : Type 0} → StripeState L → EndOf
end_of stripe = record {
  stripe = stripe.place.stripe;
  total = stripe.total;
  left = length stripe.records;
  landed = length stripe.records - unlanded stripe.records;
}
