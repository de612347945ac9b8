-- The moves are gone through one by one.
use Rattle.nm_leg.specs.Leg.{leg_type}
use Rattle.nm_gate.proofs.Acknowledged.{answered-survive}
use Rattle.nm_gate.proofs.laws.answered_writes_survive.Goals as goal

pub returns : goal.returns
returns g c is_honest = answered-survive (leg_type g.L.LegPart.model g.L.LegPart.honest) is_honest
