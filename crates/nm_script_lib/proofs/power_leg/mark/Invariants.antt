-- What has no mark yet lies outside the blocks that are done, and had none before.
use Rattle.std.proofs.Common.{◌≡◌, ℕ, false, length, slice_get, Some}
use Rattle.nm_leg.specs.Leg.{IsOutside}
use Rattle.nm_script_lib.proofs.power_leg.mark.Given as goal

abbrev pub invariant-loop-number : goal.invariant-loop-number
invariant-loop-number l =
    (length l.marks ≡ length l.fn.marks)
    × ((k : ℕ) → slice_get l.marks k ≡ Some false
    → IsOutside l.at l.number k × (slice_get l.fn.marks k ≡ Some false))
