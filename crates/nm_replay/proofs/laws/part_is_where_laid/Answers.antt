use Rattle.nm_replay.proofs.Parts.{part-is_where_laid}
use Rattle.nm_replay.proofs.laws.part_is_where_laid.Goals as goal

pub returns : goal.returns
returns c = λ from bytes block inside. part-is_where_laid from bytes block inside
