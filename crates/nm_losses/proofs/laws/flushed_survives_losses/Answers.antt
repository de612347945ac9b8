-- The moves are gone through one by one.
use Rattle.nm_leg.specs.Leg.{leg_type}
use Rattle.nm_losses.proofs.Outlived.{flushed-survives}
use Rattle.nm_losses.proofs.laws.flushed_survives_losses.Goals as goal

pub returns : goal.returns
returns g c is_honest = flushed-survives (leg_type g.L.LegPart.model g.L.LegPart.honest) g.met.L.LegPart.marked_each (λ leg. g.met.L.LegPart.durable_elsewhere leg is_honest) is_honest
