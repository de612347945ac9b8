-- A push after pushes.
use Rattle.std.proofs.Common.{rules, []}
use Rattle.nm_lanes.specs.Own.{EndsSo}
use Rattle.nm_lanes.specs.Steps.{Nobodys}
use Rattle.nm_lanes.proofs.LaneLemmas.{does-does, does-stops}
use Rattle.nm_lanes.proofs.stripe_call.StripeCall.push_all.Goals as goal

pub returns-in_err-try_push-clause-err : goal.returns-in_err-try_push-clause-err
returns-in_err-try_push-clause-err g c =
    let all = does-stops g.D.Lane.follows g.met.D.Lane.joins c.args.lane.now c.loop-leg.lane c.try_push.new.lane [] [] (EndsSo Nobodys c.in_err-try_push.field-0.0) c.loop-leg.invariant c.in_err-try_push.ensures.err in
    search (rules, all)

pub returns-then-branch-clause-ok : goal.returns-then-branch-clause-ok
returns-then-branch-clause-ok g c = does-does g.D.Lane.follows g.met.D.Lane.joins c.args.lane.now c.loop-leg.lane c.try_push.new.lane [] [] c.loop-leg.invariant c.in_ok-try_push.ensures.ok

pub loop-leg-preserved : goal.loop-leg-preserved
loop-leg-preserved g c = does-does g.D.Lane.follows g.met.D.Lane.joins c.args.lane.now c.loop-leg.lane c.try_push.new.lane [] [] c.loop-leg.invariant c.in_ok-try_push.ensures.ok
