use Rattle.nm_haggle.proofs.States.{over_after_an_end}
use Rattle.nm_haggle.proofs.laws.over_after_an_end.Goals as goal

pub returns : goal.returns
returns c = over_after_an_end
