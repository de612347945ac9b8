-- The moves are gone through one by one.
use Rattle.nm_leg.specs.Leg.{leg_type}
use Rattle.nm_history.proofs.Lists.{histories-go-on}
use Rattle.nm_history.proofs.laws.histories_go_on.Goals as goal

pub returns : goal.returns
returns g c = histories-go-on (leg_type g.L.LegPart.model g.L.LegPart.honest)
