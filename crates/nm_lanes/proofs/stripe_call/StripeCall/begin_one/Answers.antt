-- A try after those that did nothing of their own.
use Rattle.std.proofs.Common.{rules, [], ◌∷◌, ◌∙◌}
use Rattle.nm_stripe.specs.declared.answer.Answer.TheVariants as answer
use Rattle.nm_stripe.specs.declared.step.Step.TheVariants as step
use Rattle.nm_lanes.specs.Done.{done_as}
use Rattle.nm_lanes.specs.Own.{EndsSo}
use Rattle.nm_lanes.specs.Steps.{Nobodys}
use Rattle.nm_lanes.proofs.LaneLemmas.{does-does, does-stops}
use Rattle.nm_lanes.proofs.stripe_call.StripeCall.begin_one.Goals as goal

pub returns-in_err-turn-clause-err : goal.returns-in_err-turn-clause-err
returns-in_err-turn-clause-err g c =
    let all = does-stops g.D.Lane.follows g.met.D.Lane.joins c.args.lane.now c.loop.lane c.try_begin_once.new.lane [] [] (EndsSo Nobodys c.in_err-turn.field-0.0) c.loop.invariant.does c.in_err-turn.ensures.err in
    search (rules, all)

pub returns-in-Ok-clause-ok : goal.returns-in-Ok-clause-ok
returns-in-Ok-clause-ok g c =
    does-does g.D.Lane.follows g.met.D.Lane.joins c.args.lane.now c.loop.lane c.try_begin_once.new.lane [] (done_as (step.Begin c.args.block c.args.slice) (answer.Begun c.in-Ok.ticket) ∷ [])
    c.loop.invariant.does (rw (c.in-Ok.is, c.loop.invariant.same) at c.in_ok-turn.ensures.ok)

pub loop-preserved : goal.loop-preserved
loop-preserved g c =
    let back = rw c.in-Err.is at c.in_ok-turn.ensures.ok in
    record {
      can = tt;
      ends = tt;
      does = does-does g.D.Lane.follows g.met.D.Lane.joins c.args.lane.now c.loop.lane c.try_begin_once.new.lane [] [] c.loop.invariant.does back.1;
      same = back.0 ∙ c.loop.invariant.same;
    }
