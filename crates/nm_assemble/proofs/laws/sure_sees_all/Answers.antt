-- Attempts after the found save are of its listed legs.
use Rattle.nm_assemble.proofs.SaveLemmas.{sure-sees}
use Rattle.nm_assemble.proofs.laws.sure_sees_all.Goals as goal

pub returns : goal.returns
returns c = sure-sees
