use Rattle.nm_geometry.proofs.Places.{rises}
use Rattle.nm_geometry.proofs.laws.blocks_rise_in_stripes.Goals as goal

pub returns : goal.returns
returns c = λ shape low high is same lt. rises shape low high is same lt
