use Rattle.nm_haggle.proofs.States.{ends_there}
use Rattle.nm_haggle.proofs.laws.ends_there.Goals as goal

pub returns : goal.returns
returns c = ends_there
