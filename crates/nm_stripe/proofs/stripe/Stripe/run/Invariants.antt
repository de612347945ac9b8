-- The loop goes from the steps done to the rest, which are kept in reverse.
use Rattle.nm_leg.specs.Leg.{leg_type}
use Rattle.std.proofs.Common.{◌-◌, ◌≤◌, vec_len, vec_capacity}
use Rattle.nm_stripe.proofs.RunLemmas.{HasRun}
use Rattle.nm_stripe.proofs.stripe.Stripe.run.Given as goal

abbrev pub invariant-loop-step : goal.invariant-loop-step
invariant-loop-step g l = record {
  run : HasRun (leg_type g.L.LegPart.model g.L.LegPart.honest) l.fn.self l.fn.steps.items l.rest.items l.answers.items l.self;
  room : vec_len l.rest ≤ vec_capacity l.answers - vec_len l.answers;
}

abbrev pub decreases-loop-step : goal.decreases-loop-step
decreases-loop-step g l = vec_len l.rest
