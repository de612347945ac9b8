-- Whole blocks that one run may have.
use Rattle.std.proofs.Common.{rules}
use Rattle.nm_lanes.proofs.LawLemmas.{blocks-one, region-one}
use Rattle.nm_lanes.proofs.laws.one_region_is_one_step.Goals as goal

pub returns-clause-one : goal.returns-clause-one
returns-clause-one c = λ shape range some a. blocks-one shape range some a

pub returns-clause-region : goal.returns-clause-region
returns-clause-region c = λ shape one other some few same. let is = region-one shape one other some few same in search (rules, is)
