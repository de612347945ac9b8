use Rattle.nm_file_leg.specs.Called.{wrote_or_found}
use Rattle.nm_file_leg.proofs.StandingLemmas.{runs-stand}
use Rattle.nm_file_leg.proofs.laws.moved_runs_stand.Goals as goal

pub returns-clause-reads : goal.returns-clause-reads
returns-clause-reads g c = runs-stand g.M.CalledMedium.found

pub returns-clause-writes : goal.returns-clause-writes
returns-clause-writes g c = runs-stand (λ medium. wrote_or_found (g.M.CalledMedium.found medium) (g.M.CalledMedium.wrote medium))
