use Rattle.nm_replay.proofs.Parts.{laying-keeps_rest, length-laid}
use Rattle.nm_replay.proofs.laws.laying_keeps_the_rest.Goals as goal

pub returns-clause-rest : goal.returns-clause-rest
returns-clause-rest c = λ from bytes block inside. laying-keeps_rest from bytes block inside

pub returns-clause-length : goal.returns-clause-length
returns-clause-length c = λ from bytes block inside. length-laid from bytes block.0 inside
