use Rattle.nm_haggle.proofs.States.{no_option_begins_another}
use Rattle.nm_haggle.proofs.laws.no_option_begins_another.Goals as goal

pub returns : goal.returns
returns c = no_option_begins_another
