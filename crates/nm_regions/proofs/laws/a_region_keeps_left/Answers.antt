use Rattle.nm_regions.proofs.LeftLaws.{opening-keeps, finish-keeps}
use Rattle.nm_regions.proofs.laws.a_region_keeps_left.Goals as goal

pub returns-clause-opened : goal.returns-clause-opened
returns-clause-opened c = opening-keeps

pub returns-clause-finished : goal.returns-clause-finished
returns-clause-finished c = finish-keeps
