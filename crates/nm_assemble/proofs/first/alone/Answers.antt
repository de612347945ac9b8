-- One leg more is told.
use Rattle.std.proofs.lemmas.Bool.{eq-eqb, eqb-true}
use Rattle.nm_assemble.proofs.SetLemmas.{one-more}
use Rattle.nm_assemble.proofs.first.alone.Goals as goal

pub legs-preserved : goal.legs-preserved
legs-preserved c =
    one-more _ c.legs.leg c.legs.set _ _ c.legs.invariant c.set.ensures
    (eqb-true c.legs.leg c.args.master, eq-eqb c.legs.leg c.args.master) c.legs-test.true
