-- The blocks before this one are counted.
use Rattle.std.proofs.Common.{◌≡◌, ◌≤◌}
use Rattle.nm_script_lib.specs.Power.{changed_below}
use Rattle.nm_script_lib.specs.PowerLeg.{of_power}
use Rattle.nm_script_lib.proofs.power_leg.PowerLeg.changed.Given as goal

abbrev pub invariant-loop-at : goal.invariant-loop-at
invariant-loop-at l = (l.count ≡ changed_below (of_power l.self) l.at) × (l.count ≤ l.at)
