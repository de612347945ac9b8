-- The moves are gone through one by one.
use Rattle.nm_leg.specs.Leg.{leg_type}
use Rattle.nm_history.proofs.Restarting.{history-restarts}
use Rattle.nm_history.proofs.laws.history_restarts.Goals as goal

pub returns : goal.returns
returns g c = history-restarts (leg_type g.L.LegPart.model g.L.LegPart.honest)
