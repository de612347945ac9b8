use Rattle.nm_leg.specs.Leg.{leg_type}
use Rattle.nm_mirror.proofs.SessionLemmas.{arrivals-noted}
use Rattle.nm_mirror.proofs.log_laws.arrivals_are_noted.Goals as goal

pub returns : goal.returns
returns g c = arrivals-noted (leg_type g.L.LegPart.model g.L.LegPart.honest)
