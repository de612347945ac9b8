-- A begin that is not astray is the stripe's, answered as its step would be.
use Rattle.std.proofs.Common.{rules}
use Rattle.nm_leg.specs.Leg.{leg_type}
use Rattle.nm_part.specs.Asking.{GoesOn}
use Rattle.nm_part.proofs.AskLemmas.{begin-acts, begin-back, begin-counts, begin-step}
use Rattle.nm_part.proofs.part.Part.begin.Goals as goal

pub returns-clause-step : goal.returns-clause-step
returns-clause-step g c =
    GoesOn (search rules) (begin-step (leg_type g.L.LegPart.model g.L.LegPart.honest) c.args.stripe.now c.begin.new.self c.args.block c.args.data c.begin.result c.begin.ensures.ok c.begin.ensures.refused c.begin.ensures.handed_back)

pub returns-clause-acts : goal.returns-clause-acts
returns-clause-acts g c =
    λ honest. begin-acts g.L.LegPart.model c.args.stripe.now c.begin.new.self c.args.block c.args.data c.begin.result (c.begin.ensures.acts honest) (c.begin.ensures.refused_acts honest)

pub returns-clause-counted : goal.returns-clause-counted
returns-clause-counted g c = begin-counts g.row.L.Denot c.args.self.now c.begin.result

pub returns-clause-handed_back : goal.returns-clause-handed_back
returns-clause-handed_back g c = begin-back (leg_type g.L.LegPart.model g.L.LegPart.honest) c.args.stripe.now c.begin.new.self c.args.block c.args.data c.begin.result c.begin.ensures.ok c.begin.ensures.handed_back
