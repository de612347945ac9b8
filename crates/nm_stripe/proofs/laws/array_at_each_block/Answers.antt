-- The array is read block by block.
use Rattle.nm_rules.proofs.ArrayLemmas.{array-at}
use Rattle.nm_stripe.proofs.laws.array_at_each_block.Goals as goal

pub returns : goal.returns
returns g c stripe block = array-at g.L.LegPart.model stripe block
