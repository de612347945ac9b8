use Rattle.nm_geometry.proofs.Places.{back-and-there}
use Rattle.nm_geometry.proofs.laws.stripe_blocks_come_back.Goals as goal

pub returns : goal.returns
returns c = λ shape stripe block is lt. back-and-there shape stripe block is lt
