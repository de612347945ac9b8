-- What was saved is within the bounds, or they stay as they are.
use Rattle.nm_leg.specs.Leg.{leg_type}
use Rattle.nm_gate.proofs.Saved.{ended, ended-leads, failed-leads-as, failed-resaved, resaved}
use Rattle.nm_gate.proofs.gated_stripe.GatedStripe.end_save.Goals as goal

pub returns-then-may_end-clause-moves : goal.returns-then-may_end-clause-moves
returns-then-may_end-clause-moves g c legs =
    ended-leads (leg_type g.L.LegPart.model g.L.LegPart.honest) c.args.self.now.stripe c.in-Some.durable c.end.new.self c.args.claims c.args.marked.now legs (c.may_end.ensures.0 c.if-may_end.true) c.end.ensures c.eight_legs.ensures.in_sync c.eight_legs.ensures.partial c.args.self.now.durable c.in-Some.is

pub returns-else-may_end-clause-moves : goal.returns-else-may_end-clause-moves
returns-else-may_end-clause-moves g c legs =
    failed-leads-as (leg_type g.L.LegPart.model g.L.LegPart.honest) c.args.self.now.stripe c.args.self.now.durable c.in-Some.durable c.fail.new.self c.in-Some.is c.fail.ensures

pub returns-then-may_end-clause-saves : goal.returns-then-may_end-clause-saves
returns-then-may_end-clause-saves g c legs =
    resaved c.args.self.now.stripe c.args.self.now.durable c.in-Some.durable c.end.new.self c.in-Some.is
    (ended (leg_type g.L.LegPart.model g.L.LegPart.honest) c.args.self.now.stripe c.in-Some.durable c.end.new.self c.args.claims c.args.marked.now legs (c.may_end.ensures.0 c.if-may_end.true) c.end.ensures c.eight_legs.ensures.in_sync c.eight_legs.ensures.partial)

pub returns-else-may_end-clause-saves : goal.returns-else-may_end-clause-saves
returns-else-may_end-clause-saves g c legs = failed-resaved c.args.self.now.stripe c.args.self.now.durable c.in-Some.durable c.fail.new.self c.in-Some.is c.fail.ensures
