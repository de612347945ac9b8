-- The blocks before this one are copied.
use Rattle.std.proofs.Common.{◌≡◌, take}
use Rattle.nm_leg.specs.TestLegs.{of_fuse}
use Rattle.nm_script_lib.proofs.power_leg.copy_of.Given as goal

abbrev pub invariant-loop-at : goal.invariant-loop-at
invariant-loop-at l = l.copy.items ≡ take l.at (of_fuse l.leg).contents
