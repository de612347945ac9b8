-- A refused begin, and what came of it.
use Rattle.std.proofs.Common.{rules, ap, is_none, refl}
use Rattle.nm_stripe.specs.declared.answer.Answer.TheVariants as answer
use Rattle.nm_stripe.specs.declared.answer.Handed.TheVariants as handed
use Rattle.nm_stripe.specs.declared.step.Step.TheVariants as step
use Rattle.nm_lanes.proofs.LaneLemmas.{refused-goes, refused-ends}
use Rattle.nm_lanes.proofs.stripe_call.StripeCall.try_begin_once.Goals as goal

pub returns-in_err-unblock-in-Err-clause-err : goal.returns-in_err-unblock-in-Err-clause-err
returns-in_err-unblock-in-Err-clause-err g c =
    let told = answer.Refused c.in-Err.refusal (handed.Data c.in-Err.slice) in
    let all = refused-ends g.D.Lane.follows g.met.D.Lane.joins c.args.lane.now c.begin.new.lane c.unblock.new.lane (step.Begin c.args.block c.args.slice) told c.in-Err.refusal c.in_err-unblock-in-Err.field-0.0
    c.in-Err.ensures.follows refl (λ e. ap (λ x. is_none x) e) c.in_err-unblock-in-Err.ensures.err in
    search (rules, all)

pub returns-in_ok-unblock-in-Err-clause-ok : goal.returns-in_ok-unblock-in-Err-clause-ok
returns-in_ok-unblock-in-Err-clause-ok g c = (
  c.in-Err.ensures.handed_back,
  refused-goes g.D.Lane.follows g.met.D.Lane.joins c.args.lane.now c.begin.new.lane c.unblock.new.lane (step.Begin c.args.block c.args.slice) (answer.Refused c.in-Err.refusal (handed.Data c.in-Err.slice))
      c.in-Err.ensures.follows (ap (λ x. is_none x) c.in_ok-unblock-in-Err.ensures.going) c.in_ok-unblock-in-Err.ensures.ok,
)
