-- The stripes so far are behind locks of their numbers, which have their keepers, and there is room
-- for the others, which are left last first.
use Rattle.std.proofs.Common.{◌≡◌, ◌+◌, ◌++◌, ◌≤◌, map, reverse, vec_len, vec_capacity}
use Rattle.nm_book.specs.Log.{shard_of}
use Rattle.nm_mirror.proofs.mirror.lock_each.Given as goal

abbrev pub invariant-loop-gated : goal.invariant-loop-gated
invariant-loop-gated g l =
    (vec_len l.locks + vec_len l.rest ≡ vec_len l.fn.stripes) × (vec_len l.shares ≡ vec_len l.rest) × (vec_len l.fn.stripes ≤ vec_capacity l.locks)
    × (map (λ lock. lock.number) l.locks.items ++ map (λ gated. gated.stripe.place.stripe) (reverse l.rest.items)
    ≡ map (λ gated. gated.stripe.place.stripe) l.fn.stripes.items)
    × (shard_of l.keepers.seat.me.0.role ≡ vec_len l.locks)

abbrev pub decreases-loop-gated : goal.decreases-loop-gated
decreases-loop-gated g l = vec_len l.rest
