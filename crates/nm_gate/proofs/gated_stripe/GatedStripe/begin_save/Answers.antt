-- What is taken from the stripe is within the wider bounds.
use Rattle.nm_leg.specs.Leg.{leg_type}
use Rattle.nm_gate.proofs.Saved.{begun-bounds, begun-leads, begun-resaves, resaved}
use Rattle.nm_gate.proofs.gated_stripe.GatedStripe.begin_save.Goals as goal

pub returns-clause-bounds : goal.returns-clause-bounds
returns-clause-bounds g c =
    begun-bounds g.L.LegPart.model c.args.self.now.stripe c.args.self.now.durable c.in-Some.durable c.args.marked.now c.of-claims.result c.in-Some.is c.requires.marks c.of-claims.ensures c.eight_legs.ensures.named c.eight_legs.ensures.lacking

pub returns-clause-moves : goal.returns-clause-moves
returns-clause-moves g c =
    begun-leads (leg_type g.L.LegPart.model g.L.LegPart.honest) c.args.self.now.stripe c.args.self.now.durable c.in-Some.durable c.widen.new.self c.args.marked.now c.of-claims.result c.in-Some.is c.requires.marks c.of-claims.ensures c.eight_legs.ensures.named c.eight_legs.ensures.lacking c.widen.ensures

pub returns-clause-saves : goal.returns-clause-saves
returns-clause-saves g c legs =
    resaved c.args.self.now.stripe c.args.self.now.durable c.in-Some.durable c.widen.new.self c.in-Some.is
    (begun-resaves g.L.LegPart.model c.args.self.now.stripe c.args.self.now.durable c.in-Some.durable c.widen.new.self c.args.marked.now c.of-claims.result c.in-Some.is c.requires.marks c.of-claims.ensures c.eight_legs.ensures.named c.eight_legs.ensures.lacking c.widen.ensures legs)
