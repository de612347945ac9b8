-- They are all legs but those that are named or out.
use Rattle.nm_saves.proofs.LegSetLemmas.{in-neither}
use Rattle.nm_saves.proofs.knowing.other_legs.Goals as goal

pub returns : goal.returns
returns c = in-neither c.args.named.now c.args.out.now c.of.result c.or.result c.without.result c.of.ensures c.or.ensures c.without.ensures
