-- One leg more, or the end at a leg.
use Rattle.std.proofs.Common.{rules}
use Rattle.nm_lanes.proofs.SyncLemmas.{syncs-more, syncs-stop}
use Rattle.nm_lanes.proofs.stripe_call.StripeCall.sync_all.Goals as goal

pub returns-in_err-sync_one-clause-err : goal.returns-in_err-sync_one-clause-err
returns-in_err-sync_one-clause-err g c =
    let all = syncs-stop g.D.Lane.follows g.met.D.Lane.joins c.args.lane.now c.loop-leg.lane c.sync_one.new.lane c.args.legs c.loop-leg.leg c.in_err-sync_one.field-0.0 c.loop-leg.invariant c.in_err-sync_one.ensures.err in
    search (rules, all)

pub loop-leg-preserved : goal.loop-leg-preserved
loop-leg-preserved g c = syncs-more g.D.Lane.follows g.met.D.Lane.joins c.args.lane.now c.loop-leg.lane c.sync_one.new.lane c.args.legs c.loop-leg.leg c.loop-leg-test.true c.loop-leg.invariant c.in_ok-sync_one.ensures.ok
