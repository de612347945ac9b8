use Rattle.nm_plans.specs.Plan.{AreStartsOf}
use Rattle.nm_plans.proofs.starts.stripe_starts.Given as goal

-- the stripes so far start by the image
abbrev pub invariant-stripes : goal.invariant-stripes
invariant-stripes l = AreStartsOf l.stripe l.image l.here l.starts.items
