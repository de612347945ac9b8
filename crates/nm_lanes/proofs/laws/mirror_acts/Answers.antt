-- What acts on one array is explained: so the stripes join.
use Rattle.nm_lanes.proofs.Joining.{mirror-acts}
use Rattle.nm_lanes.proofs.laws.mirror_acts.Goals as goal

pub returns : goal.returns
returns g c = λ shape list old new whole is are w acts. mirror-acts g.L.LegPart.model shape list old new whole is are w acts
