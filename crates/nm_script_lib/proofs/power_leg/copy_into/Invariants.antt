-- The blocks before this one are copied.
use Rattle.nm_leg.specs.TestLegs.{of_fuse}
use Rattle.nm_script_lib.proofs.Copies.{CopiedBelow}
use Rattle.nm_script_lib.proofs.power_leg.copy_into.Given as goal

abbrev pub invariant-loop-at : goal.invariant-loop-at
invariant-loop-at l = CopiedBelow l.at (of_fuse l.leg).contents l.blocks
