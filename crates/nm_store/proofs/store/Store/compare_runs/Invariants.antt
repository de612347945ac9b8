-- The blocks so far are compared, by runs, and the legs that join are still out in the region table.
use Rattle.std.proofs.Common.{◌≡◌, ◌-◌, ◌≤◌, ℕ, List, length}
use Rattle.nm_leg.specs.Leg.{leg_type}
use Rattle.nm_rules.specs.RunComparing.{ComparesRuns, total_of}
use Rattle.nm_store.specs.Comparing.{IsComparing}
use Rattle.nm_store.proofs.store.Store.compare_runs.Given as goal

abbrev pub invariant-loop-block : goal.invariant-loop-block
invariant-loop-block g l = record {
  counts : List ℕ;
  upto : total_of counts ≡ l.block;
  most : l.block ≤ l.fn.self.place.blocks;
  compares : ComparesRuns (leg_type g.L.LegPart.model g.L.LegPart.honest) counts l.fn.self l.self;
  comparing : IsComparing g.L.LegPart.model l.self;
  place : l.self.place ≡ l.fn.self.place;
  held : length l.held ≡ 65536;
  found : length l.found ≡ 65536;
}

abbrev pub decreases-loop-block : goal.decreases-loop-block
decreases-loop-block g l = l.fn.self.place.blocks - l.block
