-- One leg more is told.
use Rattle.nm_assemble.proofs.SetLemmas.{one-more}
use Rattle.nm_assemble.proofs.assembly.Assembly.named_set.Goals as goal

pub legs-preserved : goal.legs-preserved
legs-preserved c =
    one-more _ c.legs.leg c.legs.set _ _ c.legs.invariant c.set.ensures c.opens_on.ensures
    c.legs-test.true
