-- The saves are gone through from the newest on.
use Rattle.nm_assemble.proofs.SaveLemmas.{sure-newest}
use Rattle.nm_assemble.proofs.laws.sure_is_newest.Goals as goal

pub returns : goal.returns
returns c = sure-newest
