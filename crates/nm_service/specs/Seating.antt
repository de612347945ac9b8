-- Which connection of the control port has to make room for another.
use Rattle.std.specs.Prelude.{◌≡◌, ◌≤◌, ℕ, List, slice_get, Some, None, Option}
use Rattle.nm_service.specs.declared.seats.Seat.{Seat}
use Rattle.nm_service.specs.declared.seats.Seat.TheVariants.{Idle}

-- the seat of this number has been idle since this turn
abbrev pub IsIdleSince : List Seat → ℕ → ℕ → Type 0
IsIdleSince seats number since = slice_get seats number ≡ Some (Idle since)

-- it is idle, and none that is idle has been so for longer
pub record IsIdleLongest (seats : List Seat) (number : ℕ) : Type 0 where
  pub since : ℕ
  pub idle : IsIdleSince seats number since
  pub longest : (other turn : ℕ) → IsIdleSince seats other turn → since ≤ turn

-- the answer is one that has been idle longest, or none where none is idle
abbrev pub PicksIdleLongest : List Seat → Option ℕ → Type 0
PicksIdleLongest seats (Some number) = IsIdleLongest seats number
PicksIdleLongest seats None = (other turn : ℕ) → IsIdleSince seats other turn → ⊥
