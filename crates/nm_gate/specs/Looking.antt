-- A look at what one leg of a stripe holds.
use Rattle.std.specs.Prelude.{◌≡◌, ℕ, List, [], Option, None, Some, is_some}
use Rattle.nm_choice.specs.declared.leg_state.LegState.TheVariants.{InSync}
use Rattle.nm_leg.specs.Leg.{LegType, blocks_of}
use Rattle.nm_replay.specs.Array.{Array}
use Rattle.nm_rules.specs.RunCalls.{ReadsRunAt}
use Rattle.nm_rules.specs.State.{StripeState, leg_state}

-- the blocks that a look found; none where it failed
abbrev pub found_blocks : Option (List ℕ) → Array
found_blocks None = []
found_blocks (Some bytes) = blocks_of bytes

-- a leg in sync is read from this block on, and nothing else changes
pub record LooksAt {L : Type 0} (type : LegType L) (leg block : ℕ) (found : Option (List ℕ))
    (old new : StripeState L) : Type 0 where
  pub in_sync : leg_state leg old ≡ InSync
  pub reads : ReadsRunAt type (is_some found) leg block (found_blocks found) old.legs new.legs
  pub after : new ≡ record old { legs = new.legs }
