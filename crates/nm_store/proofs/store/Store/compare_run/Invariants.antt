-- The run is compared on the legs so far, and those that join are still out in the region table.
use Rattle.std.proofs.Common.{◌≡◌, length}
use Rattle.nm_leg.specs.Leg.{blocks_of, leg_type}
use Rattle.nm_rules.specs.RunComparing.{ComparesLegsRun}
use Rattle.nm_store.specs.Comparing.{IsComparing}
use Rattle.nm_store.proofs.store.Store.compare_run.Given as goal

abbrev pub invariant-loop-leg : goal.invariant-loop-leg
invariant-loop-leg g l = record {
  compares : ComparesLegsRun (leg_type g.L.LegPart.model g.L.LegPart.honest) l.block (blocks_of l.held) l.leg l.initial.self l.self;
  comparing : IsComparing g.L.LegPart.model l.self;
  count : length l.self.legs ≡ length l.initial.self.legs;
  place : l.self.place ≡ l.initial.self.place;
  long : length l.found ≡ length l.held;
}
