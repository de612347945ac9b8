use Rattle.nm_regions.proofs.LeftLaws.{begin-keeps}
use Rattle.nm_regions.proofs.laws.begin_keeps_left.Goals as goal

pub returns : goal.returns
returns c = begin-keeps
