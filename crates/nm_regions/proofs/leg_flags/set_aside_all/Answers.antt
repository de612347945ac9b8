use Rattle.std.proofs.Common.{arith}
use Rattle.nm_regions.specs.LegFlags.{set_aside}
use Rattle.nm_regions.proofs.Marking.{map-step}
use Rattle.nm_regions.proofs.leg_flags.set_aside_all.Goals as goal

pub loop-leg-preserved : goal.loop-leg-preserved
loop-leg-preserved c = rw c.set_aside.ensures (map-step set_aside
    c.args.legs.now c.loop-leg.legs c.loop-leg.leg-index c.leg-item.result (omega arith)
    c.loop-leg.invariant)
