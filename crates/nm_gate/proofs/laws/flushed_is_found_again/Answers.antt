-- What outlives a crash, on the leg that is the master.
use Rattle.nm_leg.specs.Leg.{leg_type}
use Rattle.nm_gate.proofs.Reopened.{flushed-again}
use Rattle.nm_gate.proofs.laws.flushed_is_found_again.Goals as goal

pub returns : goal.returns
returns g c is_honest = flushed-again (leg_type g.L.LegPart.model g.L.LegPart.honest) is_honest
