-- The lock at the stripe's place has its number.
use Rattle.std.proofs.Common.{length, refl, rules}
use Rattle.std.proofs.lemmas.Option.{slice_get_read}
use Rattle.nm_mirror.proofs.NumberLemmas.{number-at}
use Rattle.nm_mirror.proofs.mirror.Mirror.lock_of.Goals as goal

pub returns : goal.returns
returns g c =
    let locks = c.args.self.now.locks.items in
    number-at (λ lock. lock.number) locks c.args.stripe c.index.result.now c.args.self.now.in_order
    (slice_get_read locks (length locks) c.args.stripe c.index.result.now refl (search rules) c.index.ensures)
