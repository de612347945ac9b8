-- The moves are gone through one by one.
use Rattle.nm_leg.specs.Leg.{leg_type}
use Rattle.nm_losses.proofs.Lists.{flushed-outlives}
use Rattle.nm_losses.proofs.laws.flushed_outlives_losses.Goals as goal

pub returns : goal.returns
returns g c is_honest = flushed-outlives (leg_type g.L.LegPart.model g.L.LegPart.honest) is_honest
