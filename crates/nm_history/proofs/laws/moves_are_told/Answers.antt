-- Each is told as the function that makes it ensures it.
use Rattle.nm_leg.specs.Leg.{leg_type}
use Rattle.nm_history.proofs.Told.{moves-told}
use Rattle.nm_history.proofs.laws.moves_are_told.Goals as goal

pub returns : goal.returns
returns g c = moves-told (leg_type g.L.LegPart.model g.L.LegPart.honest)
