-- The leg that it opens under is the only one that the superblock may call in sync.
use Rattle.nm_leg.specs.Leg.{leg_type}
use Rattle.nm_gate.proofs.Anew.{reopens-right}
use Rattle.nm_gate.proofs.laws.reopens_are_right.Goals as goal

pub returns : goal.returns
returns g c = reopens-right (leg_type g.L.LegPart.model g.L.LegPart.honest)
