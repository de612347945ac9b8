-- The old bounds and the new superblock are both in the wider ones.
use Rattle.nm_gate.proofs.Bounded.{saves-safe}
use Rattle.nm_gate.proofs.laws.saves_are_safe.Goals as goal

pub returns : goal.returns
returns g c = saves-safe g.L.LegPart.model
