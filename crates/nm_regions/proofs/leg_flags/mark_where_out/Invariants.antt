use Rattle.std.proofs.Common.{◌≡◌, ◌++◌, map, take, drop}
use Rattle.nm_regions.specs.LegFlags.{marked_if_out}
use Rattle.nm_regions.proofs.leg_flags.mark_where_out.Given as goal

-- the legs so far are marked, and the others are as they were
abbrev pub invariant-loop-leg : goal.invariant-loop-leg
invariant-loop-leg l = l.legs
    ≡ map (marked_if_out l.region) (take l.leg-index l.fn.legs) ++ drop l.leg-index l.fn.legs
