-- The moves are gone through one by one.
use Rattle.nm_leg.specs.Leg.{leg_type}
use Rattle.nm_gate.proofs.Runs.{flushed-survive}
use Rattle.nm_gate.proofs.laws.flushed_blocks_survive.Goals as goal

pub returns : goal.returns
returns g c is_honest = flushed-survive (leg_type g.L.LegPart.model g.L.LegPart.honest) is_honest
