use Rattle.nm_regions.proofs.LeftLaws.{advance-lowers}
use Rattle.nm_regions.proofs.laws.advance_lowers_left.Goals as goal

pub returns : goal.returns
returns c = advance-lowers
