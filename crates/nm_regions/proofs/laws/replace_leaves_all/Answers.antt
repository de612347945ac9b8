use Rattle.nm_regions.proofs.OutLaws.{replace-leaves-all}
use Rattle.nm_regions.proofs.laws.replace_leaves_all.Goals as goal

pub returns : goal.returns
returns c = replace-leaves-all
