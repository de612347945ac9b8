-- The moves are gone through one by one.
use Rattle.nm_leg.specs.Leg.{leg_type}
use Rattle.nm_history.proofs.Lists.{losses-may-stand}
use Rattle.nm_history.proofs.laws.losses_may_stand.Goals as goal

pub returns : goal.returns
returns g c = losses-may-stand (leg_type g.L.LegPart.model g.L.LegPart.honest)
