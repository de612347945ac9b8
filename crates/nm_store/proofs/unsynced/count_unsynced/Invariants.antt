-- The blocks of the regions so far are counted.
use Rattle.std.proofs.Common.{◌≡◌}
use Rattle.nm_rules.specs.Unsynced.{unsynced_below}
use Rattle.nm_store.proofs.unsynced.count_unsynced.Given as goal

abbrev pub invariant-loop-region : goal.invariant-loop-region
invariant-loop-region g l = l.blocks ≡ unsynced_below (g.L.LegPart.model l.part).unsynced l.regions l.region
