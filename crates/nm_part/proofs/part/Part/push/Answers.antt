-- A push that is not astray is the stripe's, answered as its step would be.
use Rattle.std.proofs.Common.{rules}
use Rattle.nm_leg.specs.Leg.{leg_type}
use Rattle.nm_part.specs.Asking.{GoesOn}
use Rattle.nm_part.proofs.AskLemmas.{push-acts, push-counts, push-step}
use Rattle.nm_part.proofs.part.Part.push.Goals as goal

pub returns-clause-step : goal.returns-clause-step
returns-clause-step g c =
    GoesOn (search rules) (push-step (leg_type g.L.LegPart.model g.L.LegPart.honest) c.args.stripe.now c.push.new.self c.args.ticket c.args.leg c.push.result c.push.ensures.ok c.push.ensures.cause c.push.ensures.stays)

pub returns-clause-acts : goal.returns-clause-acts
returns-clause-acts g c =
    λ honest running. push-acts g.L.LegPart.model c.args.stripe.now c.push.new.self c.args.ticket c.args.leg c.push.result running (c.push.ensures.acts honest) c.sound.ensures.kept c.push.ensures.stays

pub returns-clause-counted : goal.returns-clause-counted
returns-clause-counted g c = push-counts g.row.L.Denot c.args.self.now c.push.result
