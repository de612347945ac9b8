-- The legs so far stand as the plan says.
use Rattle.std.proofs.Common.{◌≡◌}
use Rattle.nm_rules.specs.Reopening.{OpeningPlan}
use Rattle.nm_store.specs.Reopening.{opened_upto}
use Rattle.nm_store.proofs.store.Store.open_legs.Given as goal

abbrev pub invariant-loop-leg : goal.invariant-loop-leg
invariant-loop-leg g l =
    let plan : OpeningPlan = record { master = l.fn.self.master; others = l.others; marks = record { marked = l.marked; span = l.span } } in
    l.self ≡ opened_upto plan l.leg l.fn.self
