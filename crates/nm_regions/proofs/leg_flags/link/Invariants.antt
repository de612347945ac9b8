use Rattle.std.proofs.Common.{◌≡◌, ◌+◌, ◌≤◌, length, drop}
use Rattle.nm_regions.specs.Links.{before_lowest, AreLinks}
use Rattle.nm_regions.proofs.leg_flags.link.Given as goal

-- the regions from this one on are linked
abbrev pub invariant-loop-at : goal.invariant-loop-at
invariant-loop-at l = record {
  within : l.at ≤ length l.behind;
  linked : AreLinks l.at (drop l.at l.behind) (drop l.at l.next);
  lowest : l.lowest ≡ l.at + before_lowest (drop l.at l.behind);
}

abbrev pub decreases-loop-at : goal.decreases-loop-at
decreases-loop-at l = l.at
