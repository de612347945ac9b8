-- A loss of power as a disk has it.
use Rattle.std.specs.Prelude.{◌≡◌, ◌⊎◌, ℕ, true, length, Some, slice_get}
use Rattle.nm_leg.specs.Leg.{Leg}
use Rattle.nm_rules.specs.State.{StripeState, is_out, leg_state}
use Rattle.nm_rules.specs.Losing.{LosesPower}

-- What a loss of power leaves of a leg: at each block what was durable there, or what reads found,
-- and all that is left is durable; it is as long, with the same marks.
pub record CrashesTo {L : Type 0} (model : L → Leg) (leg part : L) : Type 0 where
  pub long : length (model part).contents ≡ length (model leg).contents
  pub marks : (model part).unsynced ≡ (model leg).unsynced
  pub left : (block : ℕ)
      → (slice_get (model part).contents block ≡ slice_get (model leg).durable block)
      ⊎ (slice_get (model part).contents block ≡ slice_get (model leg).contents block)
  pub durable : (model part).durable ≡ (model part).contents

-- It takes no more than what the leg has marked as not synced.
abbrev pub PowerTakesTheUnsynced : {L : Type 0} → (L → Leg) → Type 0
PowerTakesTheUnsynced {L} model =
    (stripe : StripeState L) (leg : ℕ) (held part : L)
    → slice_get stripe.legs leg ≡ Some held → is_out (leg_state leg stripe) ≡ true
    → CrashesTo model held part → LosesPower model stripe leg part
