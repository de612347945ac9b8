use Rattle.nm_haggle.proofs.DataLengths.{information_adds_up, only_information_adds_up}
use Rattle.nm_haggle.proofs.laws.lengths_add_up.Goals as goal

pub returns-clause-so : goal.returns-clause-so
returns-clause-so c = information_adds_up

pub returns-clause-only_so : goal.returns-clause-only_so
returns-clause-only_so c = only_information_adds_up
