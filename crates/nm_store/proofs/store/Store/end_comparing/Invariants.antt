-- The legs so far that join are no longer out in the region table.
use Rattle.std.proofs.Common.{◌≡◌}
use Rattle.nm_regions.specs.LegFlags.{attached}
use Rattle.nm_rules.specs.Comparing.{changed_where}
use Rattle.nm_rules.specs.State.{is_joining, leg_state}
use Rattle.nm_store.proofs.store.Store.end_comparing.Given as goal

abbrev pub invariant-loop-leg : goal.invariant-loop-leg
invariant-loop-leg g l =
    l.self ≡ record l.fn.self {
      flags = changed_where (λ leg. is_joining (leg_state leg l.fn.self)) attached l.leg l.fn.self.flags;
    }
