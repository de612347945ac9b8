use Rattle.nm_leg.specs.Leg.{leg_type}
use Rattle.nm_mirror.proofs.ServesLemmas.{serves-one}
use Rattle.nm_mirror.proofs.log_laws.no_entry_serves_two.Goals as goal

pub returns : goal.returns
returns g c = serves-one (leg_type g.L.LegPart.model g.L.LegPart.honest)
