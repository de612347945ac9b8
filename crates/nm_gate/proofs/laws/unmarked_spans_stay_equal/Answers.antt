-- The moves are gone through one by one.
use Rattle.nm_leg.specs.Leg.{leg_type}
use Rattle.nm_gate.proofs.Unmarked.{unmarked-equal}
use Rattle.nm_gate.proofs.laws.unmarked_spans_stay_equal.Goals as goal

pub returns : goal.returns
returns g c is_honest = unmarked-equal (leg_type g.L.LegPart.model g.L.LegPart.honest) is_honest
