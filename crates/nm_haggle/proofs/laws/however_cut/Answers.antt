use Rattle.nm_haggle.proofs.States.{however_cut}
use Rattle.nm_haggle.proofs.laws.however_cut.Goals as goal

pub returns : goal.returns
returns c = however_cut
