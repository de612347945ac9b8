use Rattle.nm_geometry.proofs.Places.{comes-back}
use Rattle.nm_geometry.proofs.laws.blocks_come_back.Goals as goal

pub returns : goal.returns
returns c = λ shape block is inside. comes-back shape block is inside
