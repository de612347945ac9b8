use Rattle.nm_plans.proofs.ByImage.{opens-as-known}
use Rattle.nm_plans.proofs.laws.stripes_open_as_their_gates_know.Goals as goal

pub returns : goal.returns
returns c = opens-as-known
