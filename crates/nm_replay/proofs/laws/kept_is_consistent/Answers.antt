use Rattle.nm_replay.proofs.Dropping.{consistent-last_kept, ends-last_kept}
use Rattle.nm_replay.proofs.laws.kept_is_consistent.Goals as goal

pub returns : goal.returns
returns c = λ most entries to consistent ends. (consistent-last_kept most entries consistent, ends-last_kept most entries to ends)
