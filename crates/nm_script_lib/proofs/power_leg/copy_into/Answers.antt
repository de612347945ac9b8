-- At last all are copied.
use Rattle.std.proofs.Common.{arith}
use Rattle.nm_leg.specs.TestLegs.{of_fuse}
use Rattle.nm_script_lib.proofs.Copies.{all-copied}
use Rattle.nm_script_lib.proofs.power_leg.copy_into.Goals as goal

pub returns : goal.returns
returns c = all-copied c.loop-at.at (of_fuse c.args.leg.now).contents c.loop-at.blocks (omega (arith, c.loop-at-test.false, c.requires, c.loop-at.auto.blocks)) c.loop-at.invariant
