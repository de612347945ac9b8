-- Each leg was synced, so each block is equal.
use Rattle.nm_leg.specs.Leg.{leg_type}
use Rattle.nm_gate.proofs.Settled.{cleared-if}
use Rattle.nm_gate.proofs.gated_stripe.GatedStripe.clear.Goals as goal

pub returns-in-Some-clause-equal : goal.returns-in-Some-clause-equal
returns-in-Some-clause-equal g c =
    cleared-if (leg_type g.L.LegPart.model g.L.LegPart.honest) c.args.self.now.stripe c.args.self.now.durable c.in-Some.durable c.in-Some.is c.requires
