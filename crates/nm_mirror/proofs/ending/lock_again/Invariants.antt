-- The locks so far are put together, and there is room for the others, which are left last first.
use Rattle.std.proofs.Common.{◌≡◌, ◌+◌, ◌++◌, ◌≤◌, map, reverse, vec_len, vec_capacity}
use Rattle.nm_mirror.proofs.ending.lock_again.Given as goal

abbrev pub invariant-loop-one : goal.invariant-loop-one
invariant-loop-one g l =
    (vec_len l.locks + vec_len l.rest ≡ vec_len l.fn.unlocked) × (vec_len l.fn.unlocked ≤ vec_capacity l.locks)
    × (map (λ lock. lock.number) l.locks.items ++ map (λ one. one.number) (reverse l.rest.items)
    ≡ map (λ one. one.number) l.fn.unlocked.items)

abbrev pub decreases-loop-one : goal.decreases-loop-one
decreases-loop-one g l = vec_len l.rest
