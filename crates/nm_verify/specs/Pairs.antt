-- Which two legs of a stripe are compared.
use Rattle.std.specs.Prelude.{◌≡◌, ◌⊎◌, ℕ, ◌+◌, ◌<◌, ◌≤◌, length, max}
use Rattle.nm_choice.specs.declared.leg_state.LegState.TheVariants.{InSync}
use Rattle.nm_rules.specs.State.{StripeState, leg_state}

-- the stripe has the leg, in sync
pub record IsHere {L : Type 0} (leg : ℕ) (stripe : StripeState L) : Type 0 where
  pub there : leg < length stripe.legs
  pub in_sync : leg_state leg stripe ≡ InSync

-- none of the legs from the one to the other is in sync
abbrev pub HasNoneBetween : {L : Type 0} → ℕ → ℕ → StripeState L → Type 0
HasNoneBetween from leg stripe = (k : ℕ) → from ≤ k → k < leg → IsHere k stripe → ⊥

-- none of the legs from this one on is in sync
abbrev pub HasNoneFrom : {L : Type 0} → ℕ → StripeState L → Type 0
HasNoneFrom from stripe = (k : ℕ) → from ≤ k → IsHere k stripe → ⊥

-- the leg is the lowest one in sync from the other on
pub record IsNext {L : Type 0} (from leg : ℕ) (stripe : StripeState L) : Type 0 where
  pub from_on : from ≤ leg
  pub here : IsHere leg stripe
  pub lowest : HasNoneBetween from leg stripe

-- the lowest leg in sync, and the lowest one above it from `from` on
pub record IsPair {L : Type 0} (from first second : ℕ) (stripe : StripeState L) : Type 0 where
  pub one : IsNext 0 first stripe
  pub other : IsNext (max from (first + 1)) second stripe

-- there is no such pair
abbrev pub HasNoPair : {L : Type 0} → ℕ → StripeState L → Type 0
HasNoPair from stripe =
    (first second : ℕ) → IsPair from first second stripe → ⊥
