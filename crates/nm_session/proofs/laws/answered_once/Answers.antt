use Rattle.std.proofs.Common.{List, sym, subst}
use Rattle.nm_session.specs.declared.outstanding.Outstanding.{Outstanding}
use Rattle.nm_session.proofs.Once.{IsOrdered, once}
use Rattle.nm_session.proofs.laws.answered_once.Goals as goal

pub returns : goal.returns
returns c old index before between after outcome other new none runs =
    once before between after index outcome other old new
    (subst (λ (xs : List Outstanding). IsOrdered old.count xs) (sym none) (tt, tt)) runs
