use Rattle.nm_geometry.proofs.Places.{lies-inside, regions-inside}
use Rattle.nm_geometry.proofs.laws.stripes_lie_inside.Goals as goal

pub returns-clause-blocks : goal.returns-clause-blocks
returns-clause-blocks c = λ shape stripe block is lt. lies-inside shape stripe block is lt

pub returns-clause-regions : goal.returns-clause-regions
returns-clause-regions c = λ shape stripe region is lt. regions-inside shape stripe region is lt
