-- Until a try succeeds the read has done nothing of its own.
use Rattle.std.proofs.Common.{◌≡◌, [], length}
use Rattle.nm_lanes.specs.Lane.{LaneDoes}
use Rattle.nm_lanes.proofs.stripe_call.StripeCall.read_one.Given as goal

abbrev pub invariant-loop : goal.invariant-loop
invariant-loop g l = record {
  can : (goal.iterator-loop g).can_next l.iterator';
  ends : (goal.iterator-loop g).is_finite l.iterator';
  does : LaneDoes g.D.Lane.follows l.fn.lane l.lane [];
  long : length l.into ≡ length l.fn.into;
}
