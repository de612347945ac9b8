-- As many locks as at the start, of the same numbers.
use Rattle.std.proofs.Common.{◌≡◌, length, map}
use Rattle.nm_mirror.proofs.closing.first_uneven.Given as goal

abbrev pub invariant-loop-stripe : goal.invariant-loop-stripe
invariant-loop-stripe g l =
    (length l.locks ≡ length l.fn.locks) × (map (λ lock. lock.number) l.locks ≡ map (λ lock. lock.number) l.fn.locks)
