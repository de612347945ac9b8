-- The flag of one more leg.
use Rattle.std.proofs.Common.{rules}
use Rattle.nm_store.proofs.OpeningLemmas.{bits-next}
use Rattle.nm_store.proofs.opening.flags_of.Goals as goal

pub loop-leg-preserved : goal.loop-leg-preserved
loop-leg-preserved c =
    let next = bits-next c.args.bits c.loop-leg.leg 0 in
    search (rules, next)
