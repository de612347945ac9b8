-- The walk is at a region that is behind, below the place.
use Rattle.std.proofs.Common.{◌≡◌, ◌-◌, ◌<◌, true, false, get_or}
use Rattle.nm_regions.proofs.leg_flags.LegFlags.last_below.Given as goal

abbrev pub invariant-loop-self : goal.invariant-loop-self
invariant-loop-self l = record {
  below : l.last < l.from;
  behind : get_or l.self.behind l.last false ≡ true;
}

abbrev pub decreases-loop-self : goal.decreases-loop-self
decreases-loop-self l = l.from - l.last
