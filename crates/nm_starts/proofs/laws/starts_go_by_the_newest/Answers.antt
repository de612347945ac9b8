use Rattle.nm_starts.proofs.NewestPlan.{starts-go-by-the-newest}
use Rattle.nm_starts.proofs.laws.starts_go_by_the_newest.Goals as goal

pub returns : goal.returns
returns c = starts-go-by-the-newest
