-- Until a try succeeds the sync has done nothing of its own.
use Rattle.std.proofs.Common.{[]}
use Rattle.nm_lanes.specs.Lane.{LaneDoes}
use Rattle.nm_lanes.proofs.stripe_call.StripeCall.sync_one.Given as goal

abbrev pub invariant-loop : goal.invariant-loop
invariant-loop g l = record {
  can : (goal.iterator-loop g).can_next l.iterator';
  ends : (goal.iterator-loop g).is_finite l.iterator';
  does : LaneDoes g.D.Lane.follows l.fn.lane l.lane [];
}
