use Rattle.nm_haggle.proofs.States.{goes_on, goes_on_only_so}
use Rattle.nm_haggle.proofs.laws.goes_on.Goals as goal

pub returns-clause-so : goal.returns-clause-so
returns-clause-so c = goes_on

pub returns-clause-only_so : goal.returns-clause-only_so
returns-clause-only_so c = goes_on_only_so
