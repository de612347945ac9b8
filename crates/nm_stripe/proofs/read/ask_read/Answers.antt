-- The run's last block is one of the stripe's.
use Rattle.std.proofs.Common.{arith}
use Rattle.nm_stripe.proofs.read.ask_read.Goals as goal

pub overflow_add-block : goal.overflow_add-block
overflow_add-block g c = omega (arith, c.requires.run.some, c.requires.run.inside, c.requires.few)
