-- Only a promotion calls a leg in sync.
use Rattle.nm_leg.specs.Leg.{leg_type}
use Rattle.nm_gate.proofs.Listed.{listed-stay}
use Rattle.nm_gate.proofs.laws.legs_in_sync_stay_listed.Goals as goal

pub returns : goal.returns
returns g c is_honest = listed-stay (leg_type g.L.LegPart.model g.L.LegPart.honest) is_honest
