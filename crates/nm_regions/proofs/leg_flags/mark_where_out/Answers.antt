use Rattle.std.proofs.Common.{arith}
use Rattle.nm_regions.specs.LegFlags.{marked_if_out}
use Rattle.nm_regions.proofs.Marking.{map-step}
use Rattle.nm_regions.proofs.leg_flags.mark_where_out.Goals as goal

pub loop-leg-preserved : goal.loop-leg-preserved
loop-leg-preserved c = rw c.mark_if_out.ensures (map-step (marked_if_out c.args.region)
    c.args.legs.now c.loop-leg.legs c.loop-leg.leg-index c.leg-item.result (omega arith)
    c.loop-leg.invariant)
