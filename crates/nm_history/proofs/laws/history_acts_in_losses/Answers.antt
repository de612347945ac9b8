-- The moves are gone through one by one.
use Rattle.nm_leg.specs.Leg.{leg_type}
use Rattle.nm_history.proofs.Covered.{history-acts-in-losses}
use Rattle.nm_history.proofs.laws.history_acts_in_losses.Goals as goal

pub returns : goal.returns
returns g c is_honest =
    history-acts-in-losses (leg_type g.L.LegPart.model g.L.LegPart.honest) g.met.L.LegPart.marked_each (λ leg. g.met.L.LegPart.durable_elsewhere leg is_honest) is_honest
