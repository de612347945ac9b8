-- None of the legs so far is in sync.
use Rattle.std.proofs.Common.{◌-◌, ◌≤◌, length}
use Rattle.nm_verify.specs.Pairs.{HasNoneBetween}
use Rattle.nm_verify.proofs.pairs.next_here.Given as goal

abbrev pub invariant-loop-leg : goal.invariant-loop-leg
invariant-loop-leg g l = (l.fn.from ≤ l.leg) × HasNoneBetween l.fn.from l.leg l.fn.stripe

abbrev pub decreases-loop-leg : goal.decreases-loop-leg
decreases-loop-leg g l = length l.fn.stripe.legs - l.leg
