use Rattle.nm_geometry.proofs.Cutting.{cut, alone, by-number}
use Rattle.nm_geometry.proofs.laws.pieces_cut_the_range.Goals as goal

pub returns-clause-cut : goal.returns-clause-cut
returns-clause-cut c = λ range. cut range

pub returns-clause-alone : goal.returns-clause-alone
returns-clause-alone c = λ range pieces cuts. alone range pieces cuts

pub returns-clause-by_number : goal.returns-clause-by_number
returns-clause-by_number c = λ range. by-number range
