-- Legs that hold the same, as far as the stripes of a mirror that has just been opened know.
use Rattle.std.specs.Prelude.{◌≡◌, ◌≢◌, ℕ, ◌<◌, List, length, All}
use Rattle.nm_choice.specs.declared.leg_state.LegState.TheVariants.{Out}
use Rattle.nm_rules.specs.State.{StripeState, leg_state, left}

-- the leg lacks nothing: it is not out, and no block is left to copy to it
pub record LacksNothing {L : Type 0} (leg : ℕ) (stripe : StripeState L) : Type 0 where
  pub not_out : leg_state leg stripe ≢ Out
  pub none_left : left leg stripe ≡ 0

-- no leg of the stripe lacks anything
abbrev pub NoneLacks : {L : Type 0} → StripeState L → Type 0
NoneLacks stripe = (leg : ℕ) → leg < length stripe.legs → LacksNothing leg stripe

-- no leg lacks anything in any stripe
abbrev pub AreAlike : {L : Type 0} → List (StripeState L) → Type 0
AreAlike stripes = All NoneLacks stripes
