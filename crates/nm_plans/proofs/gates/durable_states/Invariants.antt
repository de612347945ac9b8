use Rattle.nm_plans.specs.Plan.{AreDurablesOf}
use Rattle.nm_plans.proofs.gates.durable_states.Given as goal

-- the gates so far go by the image
abbrev pub invariant-stripes : goal.invariant-stripes
invariant-stripes g l = AreDurablesOf l.number l.image l.stripes l.states.items
