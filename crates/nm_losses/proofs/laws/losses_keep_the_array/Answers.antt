-- The moves are gone through one by one.
use Rattle.nm_leg.specs.Leg.{leg_type}
use Rattle.nm_losses.proofs.Lists.{losses-keep}
use Rattle.nm_losses.proofs.laws.losses_keep_the_array.Goals as goal

pub returns : goal.returns
returns g c is_honest = losses-keep (leg_type g.L.LegPart.model g.L.LegPart.honest) is_honest
