-- A read that found its blocks is done; a refused one, and what came of it.
use Rattle.std.proofs.Common.{rules, ap, is_none, refl}
use Rattle.nm_stripe.specs.declared.answer.Answer.TheVariants as answer
use Rattle.nm_stripe.specs.declared.answer.Handed.TheVariants as handed
use Rattle.nm_stripe.specs.declared.step.Step.TheVariants as step
use Rattle.nm_lanes.proofs.LaneLemmas.{does-own, refused-goes, refused-ends}
use Rattle.nm_lanes.proofs.stripe_call.StripeCall.read_whole.Goals as goal

pub returns-in-Ok-Value-clause-ok : goal.returns-in-Ok-Value-clause-ok
returns-in-Ok-Value-clause-ok g c =
    let told = answer.Value (record { names = c.in-Ok-Value.field-0-0; bytes = c.read.new.into }) in
    let leads = rw c.in-Ok-Value.field-0-is at c.in-Ok-Value.ensures.follows in
    let room = c.args.into.now in
    record {
      room = room;
      long = search rules;
      completes = record {
        answer = told;
        does = does-own g.D.Lane.follows c.args.lane.now c.read.new.lane (step.Read c.args.block room) told leads refl;
        is_answer = (tt, search rules);
      };
    }

pub returns-in_err-unblock-in-Err-clause-err : goal.returns-in_err-unblock-in-Err-clause-err
returns-in_err-unblock-in-Err-clause-err g c =
    let told = answer.Refused c.in-Err.refusal (handed.Room c.read.new.into) in
    let all = refused-ends g.D.Lane.follows g.met.D.Lane.joins c.args.lane.now c.read.new.lane c.unblock.new.lane (step.Read c.args.block c.args.into.now) told c.in-Err.refusal c.in_err-unblock-in-Err.field-0.0
    c.in-Err.ensures.follows refl (λ e. ap (λ x. is_none x) e) c.in_err-unblock-in-Err.ensures.err in
    search (rules, all)

pub returns-in_ok-unblock-in-Err-clause-ok : goal.returns-in_ok-unblock-in-Err-clause-ok
returns-in_ok-unblock-in-Err-clause-ok g c =
    refused-goes g.D.Lane.follows g.met.D.Lane.joins c.args.lane.now c.read.new.lane c.unblock.new.lane (step.Read c.args.block c.args.into.now) (answer.Refused c.in-Err.refusal (handed.Room c.read.new.into))
    c.in-Err.ensures.follows (ap (λ x. is_none x) c.in_ok-unblock-in-Err.ensures.going) c.in_ok-unblock-in-Err.ensures.ok
