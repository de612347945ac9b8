use Rattle.nm_replay.proofs.Legality.{legal-append}
use Rattle.nm_replay.proofs.laws.legal_then_legal.Goals as goal

pub returns : goal.returns
returns c = λ earlier piece next array middle to begun ended. legal-append earlier piece next array middle to begun ended
