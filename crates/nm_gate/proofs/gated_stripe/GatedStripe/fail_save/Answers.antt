-- The bounds stay as they are.
use Rattle.nm_leg.specs.Leg.{leg_type}
use Rattle.nm_gate.proofs.Saved.{failed-leads-as, failed-resaved}
use Rattle.nm_gate.proofs.gated_stripe.GatedStripe.fail_save.Goals as goal

pub returns-in-Some-clause-moves : goal.returns-in-Some-clause-moves
returns-in-Some-clause-moves g c =
    failed-leads-as (leg_type g.L.LegPart.model g.L.LegPart.honest) c.args.self.now.stripe c.args.self.now.durable c.in-Some.durable c.fail.new.self c.in-Some.is c.fail.ensures

pub returns-in-Some-clause-saves : goal.returns-in-Some-clause-saves
returns-in-Some-clause-saves g c = failed-resaved c.args.self.now.stripe c.args.self.now.durable c.in-Some.durable c.fail.new.self c.in-Some.is c.fail.ensures
