-- The moves are gone through one by one.
use Rattle.nm_leg.specs.Leg.{leg_type}
use Rattle.nm_history.proofs.Acting.{history-acts}
use Rattle.nm_history.proofs.laws.history_acts.Goals as goal

pub returns : goal.returns
returns g c is_honest = history-acts (leg_type g.L.LegPart.model g.L.LegPart.honest) is_honest
