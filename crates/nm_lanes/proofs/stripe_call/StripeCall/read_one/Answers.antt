-- A try after those that did nothing of their own.
use Rattle.std.proofs.Common.{rules, ◌≡◌, [], take, drop}
use Rattle.nm_lanes.specs.Own.{EndsSo}
use Rattle.nm_lanes.specs.Reads.{IsValue, value_bytes}
use Rattle.nm_lanes.specs.Runs.{run_blocks}
use Rattle.nm_lanes.specs.Steps.{Nobodys}
use Rattle.nm_lanes.proofs.LaneLemmas.{does-does, does-stops}
use Rattle.nm_lanes.proofs.TurnLemmas.{does-reads}
use Rattle.nm_lanes.proofs.stripe_call.StripeCall.read_one.Goals as goal

pub returns-in_err-try_read_once-clause-err : goal.returns-in_err-try_read_once-clause-err
returns-in_err-try_read_once-clause-err g c =
    let kind = c.in_err-try_read_once.field-0.0 in
    let all = does-stops g.D.Lane.follows g.met.D.Lane.joins c.args.lane.now c.loop.lane c.try_read_once.new.lane [] [] (EndsSo Nobodys kind) c.loop.invariant.does c.in_err-try_read_once.ensures.err in
    search (rules, all)

pub returns-then-branch-clause-ok : goal.returns-then-branch-clause-ok
returns-then-branch-clause-ok g c =
    does-reads g.D.Lane.follows g.met.D.Lane.joins c.args.lane.now c.loop.lane c.try_read_once.new.lane c.args.block (run_blocks c.args.run) (λ told. IsValue told × (c.try_read_once.new.into ≡ take c.args.run.len (drop c.args.run.from (value_bytes told))))
    c.loop.invariant.does (rw c.if-branch.true at c.in_ok-try_read_once.ensures.ok)

pub loop-preserved : goal.loop-preserved
loop-preserved g c = record {
  can = tt;
  ends = tt;
  does = does-does g.D.Lane.follows g.met.D.Lane.joins c.args.lane.now c.loop.lane c.try_read_once.new.lane [] [] c.loop.invariant.does (rw c.if-branch.false at c.in_ok-try_read_once.ensures.ok);
  long = search rules;
}
