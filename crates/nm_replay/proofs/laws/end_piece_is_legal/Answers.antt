use Rattle.nm_replay.proofs.Legality.{legal-split}
use Rattle.nm_replay.proofs.laws.end_piece_is_legal.Goals as goal

pub returns : goal.returns
returns c = λ earlier piece next array to legal. legal-split earlier piece next array to legal
