-- An honest leg has each block durable that it has not marked.
use Rattle.nm_losses.proofs.Crashed.{power-takes}
use Rattle.nm_losses.proofs.laws.power_takes_the_unsynced.Goals as goal

pub returns : goal.returns
returns g c is_honest = power-takes g.L.LegPart.model g.met.L.LegPart.marked_each (λ leg. g.met.L.LegPart.durable_elsewhere leg is_honest)
