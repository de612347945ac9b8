-- Until a try succeeds the write has done nothing of its own, and its data are those that came.
use Rattle.std.proofs.Common.{◌≡◌, []}
use Rattle.nm_lanes.specs.Lane.{LaneDoes}
use Rattle.nm_lanes.proofs.stripe_call.StripeCall.begin_one.Given as goal

abbrev pub invariant-loop : goal.invariant-loop
invariant-loop g l = record {
  can : (goal.iterator-loop g).can_next l.iterator';
  ends : (goal.iterator-loop g).is_finite l.iterator';
  does : LaneDoes g.D.Lane.follows l.fn.lane l.lane [];
  same : l.rest ≡ l.fn.slice;
}
