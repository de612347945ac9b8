-- By cases of the call: the others need a reader without a fault.
use Rattle.nm_requests.proofs.Calls.{stays_stopped as stays}
use Rattle.nm_requests.proofs.laws.stays_stopped.Goals as goal

pub returns : goal.returns
returns c = stays
