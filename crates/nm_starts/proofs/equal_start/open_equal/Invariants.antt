-- The legs of the stripes to come are left, last first.
use Rattle.std.proofs.Common.{◌≡◌, vec_len}
use Rattle.nm_starts.proofs.equal_start.open_equal.Given as goal

abbrev pub invariant-loop-own : goal.invariant-loop-own
invariant-loop-own l = l.opening.shape ≡ l.fn.shape

abbrev pub decreases-loop-own : goal.decreases-loop-own
decreases-loop-own l = vec_len l.rest
