-- Each step takes its stripe's next list of events, and the array follows entry by entry.
use Rattle.nm_lanes.proofs.Joining.{joined}
use Rattle.nm_lanes.proofs.laws.stripes_join.Goals as goal

pub returns : goal.returns
returns g c = λ shape list from to whole own is are w each. joined shape list from to whole own is are w each
