-- The legs before this one are synced.
use Rattle.nm_lanes.specs.Syncs.{LaneSyncs}
use Rattle.nm_lanes.proofs.stripe_call.StripeCall.sync_all.Given as goal

abbrev pub invariant-loop-leg : goal.invariant-loop-leg
invariant-loop-leg g l = LaneSyncs g.D.Lane.follows (l.fn.lane, l.lane) l.fn.legs l.leg
