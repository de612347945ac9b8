-- Among the seats so far the one that was found has been idle longest.
use Rattle.std.proofs.Common.{ℕ, ◌<◌, ◌≤◌, List, Option, Some, None}
use Rattle.nm_service.specs.declared.seats.Seat.{Seat}
use Rattle.nm_service.specs.Seating.{IsIdleSince}
use Rattle.nm_service.proofs.seats.idle_longest.Given as goal

pub record FoundSoFar (seats : List Seat) (so_far found least : ℕ) : Type 0 where
  pub idle : IsIdleSince seats found least
  pub longest : (other turn : ℕ) → other < so_far → IsIdleSince seats other turn → least ≤ turn

abbrev pub SoFar : List Seat → ℕ → Option ℕ → ℕ → Type 0
SoFar seats so_far (Some found) least = FoundSoFar seats so_far found least
SoFar seats so_far None least = (other turn : ℕ) → other < so_far → IsIdleSince seats other turn → ⊥

abbrev pub invariant-loop-number : goal.invariant-loop-number
invariant-loop-number l = SoFar l.seats l.number l.found l.least
