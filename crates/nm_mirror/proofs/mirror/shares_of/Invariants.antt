-- There is room for the shares that are missing.
use Rattle.std.proofs.Common.{◌-◌, ◌≤◌, vec_len, vec_capacity}
use Rattle.nm_mirror.proofs.mirror.shares_of.Given as goal

abbrev pub invariant-loop-shares : goal.invariant-loop-shares
invariant-loop-shares g l = (vec_len l.shares ≤ l.count) × (l.count ≤ vec_capacity l.shares)

abbrev pub decreases-loop-shares : goal.decreases-loop-shares
decreases-loop-shares g l = l.count - vec_len l.shares
