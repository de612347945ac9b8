-- A try after those that did nothing of their own.
use Rattle.std.proofs.Common.{rules, []}
use Rattle.nm_stripe.specs.declared.step.Step.TheVariants as step
use Rattle.nm_lanes.specs.Flushes.{SyncsOrFindsOut}
use Rattle.nm_lanes.specs.Own.{EndsSo}
use Rattle.nm_lanes.specs.Steps.{Nobodys}
use Rattle.nm_lanes.proofs.LaneLemmas.{does-does, does-stops}
use Rattle.nm_lanes.proofs.TurnLemmas.{does-completes}
use Rattle.nm_lanes.proofs.stripe_call.StripeCall.sync_one.Goals as goal

pub returns-in_err-try_sync_once-clause-err : goal.returns-in_err-try_sync_once-clause-err
returns-in_err-try_sync_once-clause-err g c =
    let kind = c.in_err-try_sync_once.field-0.0 in
    let all = does-stops g.D.Lane.follows g.met.D.Lane.joins c.args.lane.now c.loop.lane c.try_sync_once.new.lane [] [] (EndsSo Nobodys kind) c.loop.invariant.does c.in_err-try_sync_once.ensures.err in
    search (rules, all)

pub returns-then-branch-clause-ok : goal.returns-then-branch-clause-ok
returns-then-branch-clause-ok g c =
    does-completes g.D.Lane.follows g.met.D.Lane.joins c.args.lane.now c.loop.lane c.try_sync_once.new.lane (step.Flush c.args.leg) (SyncsOrFindsOut c.args.leg (step.Flush c.args.leg))
    c.loop.invariant.does (rw c.if-branch.true at c.in_ok-try_sync_once.ensures.ok)

pub loop-preserved : goal.loop-preserved
loop-preserved g c = record {
  can = tt;
  ends = tt;
  does = does-does g.D.Lane.follows g.met.D.Lane.joins c.args.lane.now c.loop.lane c.try_sync_once.new.lane [] [] c.loop.invariant.does (rw c.if-branch.false at c.in_ok-try_sync_once.ensures.ok);
}
