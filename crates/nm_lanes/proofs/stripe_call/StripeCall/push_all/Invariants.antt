-- The pushes do nothing of the call's own.
use Rattle.std.proofs.Common.{[]}
use Rattle.nm_lanes.specs.Lane.{LaneDoes}
use Rattle.nm_lanes.proofs.stripe_call.StripeCall.push_all.Given as goal

abbrev pub invariant-loop-leg : goal.invariant-loop-leg
invariant-loop-leg g l = LaneDoes g.D.Lane.follows l.fn.lane l.lane []
