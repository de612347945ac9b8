use Rattle.nm_regions.proofs.Dirtied.{AreDirtied}
use Rattle.nm_regions.proofs.leg_flags.mark_dirty.Given as goal

-- the regions from this one on are marked and counted, and those before it are as they were
abbrev pub invariant-loop-at : goal.invariant-loop-at
invariant-loop-at l = AreDirtied l.at l.writes l.fn.behind l.behind l.count

abbrev pub decreases-loop-at : goal.decreases-loop-at
decreases-loop-at l = l.at
