-- A copy that is not astray is the stripe's, answered as its step would be.
use Rattle.std.proofs.Common.{rules, sym, subst, List}
use Rattle.nm_leg.specs.Leg.{leg_type}
use Rattle.nm_replay.specs.Events.{Event}
use Rattle.nm_rules.specs.Acts.{IsExplainedStep}
use Rattle.nm_part.specs.Asking.{GoesOn}
use Rattle.nm_part.proofs.AskLemmas.{copy-counts, copy-marks, copy-step}
use Rattle.nm_part.proofs.part.Part.copy.Goals as goal

pub returns-clause-step : goal.returns-clause-step
returns-clause-step g c =
    GoesOn (search rules) (copy-step (leg_type g.L.LegPart.model g.L.LegPart.honest) c.args.stripe.now c.copy.new.self c.args.leg c.args.most c.args.from c.copy.result c.copy.ensures.ok c.copy.ensures.refused)

pub returns-clause-acts : goal.returns-clause-acts
returns-clause-acts g c =
    λ honest. subst (λ (marked : List Event). IsExplainedStep g.L.LegPart.model marked c.args.stripe.now c.copy.new.self) (sym (copy-marks g.row.L.Denot c.args.leg c.args.most c.args.from c.copy.result)) (c.copy.ensures.acts honest)

pub returns-clause-counted : goal.returns-clause-counted
returns-clause-counted g c = copy-counts g.row.L.Denot c.args.self.now c.copy.result
