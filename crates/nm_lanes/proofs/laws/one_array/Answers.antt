use Rattle.nm_lanes.proofs.Wholes.{makes-one, one-alone}
use Rattle.nm_lanes.proofs.laws.one_array.Goals as goal

pub returns-clause-made : goal.returns-clause-made
returns-clause-made c = λ shape arrays is long. makes-one shape arrays is long

pub returns-clause-alone : goal.returns-clause-alone
returns-clause-alone c = λ shape arrays one other a b. one-alone shape arrays one other a b
