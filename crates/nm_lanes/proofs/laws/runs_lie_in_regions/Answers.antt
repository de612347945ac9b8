-- Runs, one piece more at a time.
use Rattle.nm_lanes.proofs.LawLemmas.{range-fits}
use Rattle.nm_lanes.proofs.RunLemmas.{runs-part}
use Rattle.nm_lanes.proofs.laws.runs_lie_in_regions.Goals as goal

pub returns-clause-fit : goal.returns-clause-fit
returns-clause-fit c = λ shape range some. range-fits shape range some

pub returns-clause-ends : goal.returns-clause-ends
returns-clause-ends c = λ shape range block before after ends. runs-part shape range block before after ends
