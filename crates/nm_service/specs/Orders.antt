-- What is ordered of each leg, and what a command on a leg changes.
use Rattle.std.specs.Prelude.{◌≡◌, ℕ, Bool, true, false, List, Option, None, Some}
use Rattle.std.specs.Prelude.{slice_get, slice_set}
use Rattle.nm_service.specs.declared.leg_orders.LegOrder.{LegOrder}
use Rattle.nm_service.specs.declared.leg_orders.LegOrder.TheVariants.{Free, StaysOut}
use Rattle.nm_service.specs.declared.leg_orders.LegOrder.TheVariants.{Moving, Replacing}
use Rattle.nm_service.specs.declared.leg_orders.LegOrders.{LegOrders}

-- what is ordered of the leg, if there is a place for it
abbrev pub order_of : ℕ → LegOrders → Option LegOrder
order_of leg orders = slice_get orders.legs leg

-- whether a leg of which that is ordered stays out, where no command on it is under way
abbrev pub stays_out : Option LegOrder → Option Bool
stays_out None = None
stays_out (Some Free) = Some false
stays_out (Some StaysOut) = Some true
stays_out (Some (Moving was_out)) = None
stays_out (Some (Replacing was_out)) = None

-- what is ordered of a leg on which no command is under way
abbrev pub at_rest : Bool → LegOrder
at_rest false = Free
at_rest true = StaysOut

-- the orders once this is ordered of the leg
abbrev pub with_order : ℕ → LegOrder → LegOrders → LegOrders
with_order leg order orders = record { legs = slice_set orders.legs leg order }

-- A command on the leg begins where none is under way, and notes whether the leg stayed out; where
-- one is, or there is no place for the leg, nothing changes.
abbrev pub Begins : (Bool → LegOrder) → ℕ → Option Bool → (old new : LegOrders) → Type 0
Begins command leg None old new =
    (stays_out (order_of leg old) ≡ None) × (new ≡ old)
Begins command leg (Some was_out) old new =
    (stays_out (order_of leg old) ≡ Some was_out) × (new ≡ with_order leg (command was_out) old)

-- the leg is being taken out or attached
abbrev pub IsMoving : Option LegOrder → Type 0
IsMoving None = ⊥
IsMoving (Some Free) = ⊥
IsMoving (Some StaysOut) = ⊥
IsMoving (Some (Moving was_out)) = Unit {0}
IsMoving (Some (Replacing was_out)) = ⊥

-- the leg is being replaced, or taken out for good
abbrev pub IsReplaced : Option LegOrder → Type 0
IsReplaced None = ⊥
IsReplaced (Some Free) = ⊥
IsReplaced (Some StaysOut) = ⊥
IsReplaced (Some (Moving was_out)) = ⊥
IsReplaced (Some (Replacing was_out)) = Unit {0}
