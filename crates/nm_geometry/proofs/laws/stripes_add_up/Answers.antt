use Rattle.nm_geometry.proofs.Places.{adds-up}
use Rattle.nm_geometry.proofs.laws.stripes_add_up.Goals as goal

pub returns-clause-sum : goal.returns-clause-sum
returns-clause-sum c = λ shape is. adds-up shape is
