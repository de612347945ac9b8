-- A flush that is not astray is the stripe's, answered as its step would be.
use Rattle.std.proofs.Common.{rules, sym, subst, List}
use Rattle.nm_leg.specs.Leg.{leg_type}
use Rattle.nm_replay.specs.Events.{Event}
use Rattle.nm_rules.specs.Acts.{IsExplainedStep}
use Rattle.nm_part.specs.Asking.{GoesOn}
use Rattle.nm_part.proofs.AskLemmas.{flush-counts, flush-marks, flush-step}
use Rattle.nm_part.proofs.part.Part.flush.Goals as goal

pub returns-clause-step : goal.returns-clause-step
returns-clause-step g c =
    GoesOn (search rules) (flush-step (leg_type g.L.LegPart.model g.L.LegPart.honest) c.args.stripe.now c.flush.new.self c.args.leg c.flush.result c.flush.ensures.ok c.flush.ensures.refused)

pub returns-clause-acts : goal.returns-clause-acts
returns-clause-acts g c =
    λ honest. subst (λ (marked : List Event). IsExplainedStep g.L.LegPart.model marked c.args.stripe.now c.flush.new.self) (sym (flush-marks g.row.L.Denot c.args.leg c.flush.result)) (c.flush.ensures.acts honest)

pub returns-clause-counted : goal.returns-clause-counted
returns-clause-counted g c = flush-counts g.row.L.Denot c.args.self.now c.flush.result
