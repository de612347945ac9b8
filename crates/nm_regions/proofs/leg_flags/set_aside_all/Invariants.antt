use Rattle.std.proofs.Common.{◌≡◌, ◌++◌, map, take, drop}
use Rattle.nm_regions.specs.LegFlags.{set_aside}
use Rattle.nm_regions.proofs.leg_flags.set_aside_all.Given as goal

-- the legs so far are set aside, and the others are as they were
abbrev pub invariant-loop-leg : goal.invariant-loop-leg
invariant-loop-leg l = l.legs
    ≡ map set_aside (take l.leg-index l.fn.legs) ++ drop l.leg-index l.fn.legs
