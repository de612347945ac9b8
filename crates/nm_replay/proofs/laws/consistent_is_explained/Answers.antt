use Rattle.nm_replay.proofs.Endings.{legal-consistent}
use Rattle.nm_replay.proofs.Layings.{some_ending}
use Rattle.nm_replay.proofs.Openings.{consistent-opens}
use Rattle.nm_replay.proofs.laws.consistent_is_explained.Goals as goal

pub returns : goal.returns
returns c = λ entries. (
  λ legal. legal-consistent entries (legal.1).0 (legal.1).1 legal.0 (legal.1).2,
  λ consistent.
      let ending = some_ending entries in
      (ending.0, consistent-opens entries ending.0 consistent ending.1),
)
