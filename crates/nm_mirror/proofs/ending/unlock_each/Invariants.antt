-- The locks so far are taken apart, and there is room for the others, which are left last first.
use Rattle.std.proofs.Common.{◌≡◌, ◌+◌, ◌++◌, ◌≤◌, map, reverse, vec_len, vec_capacity}
use Rattle.nm_mirror.proofs.ending.unlock_each.Given as goal

abbrev pub invariant-loop-lock : goal.invariant-loop-lock
invariant-loop-lock g l =
    (vec_len l.unlocked + vec_len l.locks ≡ vec_len l.fn.locks) × (vec_len l.fn.locks ≤ vec_capacity l.unlocked)
    × (vec_capacity l.locks ≡ vec_capacity l.fn.locks)
    × (map (λ one. one.number) l.unlocked.items ++ map (λ lock. lock.number) (reverse l.locks.items)
    ≡ map (λ lock. lock.number) l.fn.locks.items)

abbrev pub decreases-loop-lock : goal.decreases-loop-lock
decreases-loop-lock g l = vec_len l.locks
