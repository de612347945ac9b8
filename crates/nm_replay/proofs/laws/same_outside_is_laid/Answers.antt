use Rattle.nm_replay.proofs.Parts.{same_outside-is_laid}
use Rattle.nm_replay.proofs.laws.same_outside_is_laid.Goals as goal

pub returns : goal.returns
returns c = λ from len old new inside same. same_outside-is_laid from len old new inside same
