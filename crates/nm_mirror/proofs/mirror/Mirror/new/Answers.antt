-- The locks have the numbers of the stripes, which are in order.
use Rattle.std.proofs.Common.{sym, subst}
use Rattle.nm_mirror.proofs.NumberLemmas.{gated-in-order}
use Rattle.nm_mirror.specs.Numbers.{AreInOrder}
use Rattle.nm_mirror.proofs.mirror.Mirror.new.Goals as goal

pub invariant_of-result-clause-in_order : goal.invariant_of-result-clause-in_order
invariant_of-result-clause-in_order g c =
    subst AreInOrder (sym c.in-Ok-lock_each.ensures.numbers)
    (gated-in-order c.args.shape (λ gated. gated.stripe) c.args.stripes.items c.requires.each)

pub lock_each-requires-clause-in_order : goal.lock_each-requires-clause-in_order
lock_each-requires-clause-in_order g c = gated-in-order c.args.shape (λ gated. gated.stripe) c.args.stripes.items c.requires.each
