-- The moves are gone through one by one.
use Rattle.nm_leg.specs.Leg.{leg_type}
use Rattle.nm_gate.proofs.Unmarked.{cooled-clear}
use Rattle.nm_gate.proofs.laws.cooled_spans_may_be_cleared.Goals as goal

pub returns : goal.returns
returns g c is_honest = cooled-clear (leg_type g.L.LegPart.model g.L.LegPart.honest) is_honest
