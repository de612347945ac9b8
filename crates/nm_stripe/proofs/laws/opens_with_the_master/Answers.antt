-- An opened stripe has no record that could be laid over a block.
use Rattle.nm_rules.specs.Array.{contents_of}
use Rattle.nm_rules.specs.Opening.{opened}
use Rattle.nm_stripe.proofs.OpeningLemmas.{laid-none}
use Rattle.nm_stripe.proofs.laws.opens_with_the_master.Goals as goal

pub returns : goal.returns
returns g c place legs in_sync first policy = laid-none 0 (contents_of g.L.LegPart.model legs (opened place legs in_sync first policy).master)
