-- The legs agree wherever none is behind.
use Rattle.nm_leg.specs.Leg.{leg_type}
use Rattle.nm_gate.proofs.Reopened.{restarts-right}
use Rattle.nm_gate.proofs.laws.restarts_are_right.Goals as goal

pub returns : goal.returns
returns g c = restarts-right (leg_type g.L.LegPart.model g.L.LegPart.honest)
