-- A leg that opens is behind at each block but in unmarked spans.
use Rattle.nm_leg.specs.Leg.{leg_type}
use Rattle.nm_gate.proofs.MarkedStarts.{marked-starts-right}
use Rattle.nm_gate.proofs.laws.marked_starts_are_right.Goals as goal

pub returns : goal.returns
returns g c = marked-starts-right (leg_type g.L.LegPart.model g.L.LegPart.honest)
