use Rattle.std.proofs.Common.{◌≡◌, map, take}
use Rattle.nm_regions.specs.LegFlags.{opened_leg}
use Rattle.nm_regions.proofs.leg_flags.open_legs.Given as goal

-- the legs so far
abbrev pub invariant-loop-named : goal.invariant-loop-named
invariant-loop-named l = l.legs.items ≡ map (opened_leg l.regions) (take l.named-index l.in_sync)
