-- A flush that was done or found its leg out is done; another refused one, and what came of it.
use Rattle.std.proofs.Common.{rules, refl, ◌≡◌, false}
use Rattle.nm_lanes.specs.Answers.{refused_with_nothing}
use Rattle.nm_lanes.specs.Own.{finds_out}
use Rattle.nm_stripe.specs.declared.step.Step.TheVariants as step
use Rattle.nm_lanes.proofs.LaneLemmas.{refused-goes, refused-ends}
use Rattle.nm_lanes.proofs.TurnLemmas.{sync-helps, sync-done, syncs-out}
use Rattle.nm_lanes.proofs.stripe_call.StripeCall.try_sync_once.Goals as goal

pub returns-in-Ok-Synced-clause-ok : goal.returns-in-Ok-Synced-clause-ok
returns-in-Ok-Synced-clause-ok g c = sync-done g.D.Lane.follows c.args.lane.now c.flush.new.lane c.args.leg (rw c.in-Ok-Synced.field-0-is at c.in-Ok-Synced.ensures.follows)

pub returns-then-finds_out-clause-ok : goal.returns-then-finds_out-clause-ok
returns-then-finds_out-clause-ok g c = syncs-out g.D.Lane.follows c.args.lane.now c.flush.new.lane c.args.leg c.in-Err.refusal (search rules) c.in-Err.ensures.follows

pub returns-in_err-unblock-in-Err-clause-err : goal.returns-in_err-unblock-in-Err-clause-err
returns-in_err-unblock-in-Err-clause-err g c =
    let other : finds_out c.in-Err.refusal ≡ false = search rules in
    let all = refused-ends g.D.Lane.follows g.met.D.Lane.joins c.args.lane.now c.flush.new.lane c.unblock.new.lane (step.Flush c.args.leg) (refused_with_nothing c.in-Err.refusal) c.in-Err.refusal c.in_err-unblock-in-Err.field-0.0
    c.in-Err.ensures.follows refl (λ e. sync-helps g.row.L.Denot c.args.leg c.in-Err.refusal e other) c.in_err-unblock-in-Err.ensures.err in
    search (rules, all)

pub returns-in_ok-unblock-in-Err-clause-ok : goal.returns-in_ok-unblock-in-Err-clause-ok
returns-in_ok-unblock-in-Err-clause-ok g c =
    let other : finds_out c.in-Err.refusal ≡ false = search rules in
    refused-goes g.D.Lane.follows g.met.D.Lane.joins c.args.lane.now c.flush.new.lane c.unblock.new.lane (step.Flush c.args.leg) (refused_with_nothing c.in-Err.refusal)
    c.in-Err.ensures.follows (sync-helps g.row.L.Denot c.args.leg c.in-Err.refusal c.in_ok-unblock-in-Err.ensures.going other) c.in_ok-unblock-in-Err.ensures.ok
