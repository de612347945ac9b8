use Rattle.nm_leg.specs.Leg.{leg_type}
use Rattle.nm_plans.proofs.GoesOn.{starts-go-on}
use Rattle.nm_plans.proofs.laws.starts_go_on.Goals as goal

pub returns : goal.returns
returns g c = starts-go-on (leg_type g.L.LegPart.model g.L.LegPart.honest)
