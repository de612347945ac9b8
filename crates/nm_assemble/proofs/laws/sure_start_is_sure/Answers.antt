-- What was found beside a listed leg is no newer than the newest, and was read there.
use Rattle.nm_assemble.proofs.SureLemmas.{sure-start}
use Rattle.nm_assemble.proofs.laws.sure_start_is_sure.Goals as goal

pub returns : goal.returns
returns c = sure-start
