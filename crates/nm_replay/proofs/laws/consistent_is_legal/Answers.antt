use Rattle.nm_replay.proofs.Endings.{legal-consistent, legal-ends}
use Rattle.nm_replay.proofs.Openings.{consistent-opens}
use Rattle.nm_replay.proofs.laws.consistent_is_legal.Goals as goal

pub returns : goal.returns
returns c = λ entries to. (
  λ opened. (
    legal-consistent entries opened.0 opened.1 to opened.2,
    legal-ends entries opened.0 opened.1 to opened.2,
  ),
  λ consistent. consistent-opens entries to consistent.0 consistent.1,
)
