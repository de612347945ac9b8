-- A refusal that ends the call is its last step; after another one comes a push of what is in the way.
use Rattle.std.proofs.Common.{rules, ◌≡◌, [], None, is_none, ap}
use Rattle.nm_stripe.specs.declared.step.Step.TheVariants as step
use Rattle.nm_lanes.specs.Answers.{refused_with_nothing}
use Rattle.nm_lanes.specs.Own.{end_of, EndsSo}
use Rattle.nm_lanes.specs.Steps.{Nobodys}
use Rattle.nm_lanes.proofs.LaneLemmas.{does-help, does-stops, refused-goes, stops-refused}
use Rattle.nm_lanes.proofs.stripe_call.StripeCall.help_copy.Goals as goal

pub returns-in-Some-clause-err : goal.returns-in-Some-clause-err
returns-in-Some-clause-err g c =
    stops-refused g.D.Lane.follows _ _ _ _ c.in-Err.refusal c.in-Some.kind Nobodys c.in-Err.ensures.follows (search rules) (search rules)

pub returns-in_err-help_write-in-Err-clause-err : goal.returns-in_err-help_write-in-Err-clause-err
returns-in_err-help_write-in-Err-clause-err g c =
    let refusal = c.in-Err.refusal in
    let kind = c.in_err-help_write-in-Err.field-0.0 in
    let none : end_of refusal ≡ None = search rules in
    let helped = does-help g.D.Lane.follows c.args.lane.now c.copy.new.lane (step.Copy c.args.leg 128 18446744073709551615) (refused_with_nothing refusal) c.in-Err.ensures.follows (ap (λ k. is_none k) none) in
    let all = does-stops g.D.Lane.follows g.met.D.Lane.joins c.args.lane.now c.copy.new.lane c.help_write.new.lane [] [] (EndsSo Nobodys kind) helped c.in_err-help_write-in-Err.ensures.err in
    search (rules, all)

pub returns-in_ok-help_write-in-Err-clause-ok : goal.returns-in_ok-help_write-in-Err-clause-ok
returns-in_ok-help_write-in-Err-clause-ok g c =
    let refusal = c.in-Err.refusal in
    let none : end_of refusal ≡ None = search rules in
    refused-goes g.D.Lane.follows g.met.D.Lane.joins c.args.lane.now c.copy.new.lane c.help_write.new.lane (step.Copy c.args.leg 128 18446744073709551615) (refused_with_nothing refusal)
    c.in-Err.ensures.follows (ap (λ k. is_none k) none) c.in_ok-help_write-in-Err.ensures.ok
