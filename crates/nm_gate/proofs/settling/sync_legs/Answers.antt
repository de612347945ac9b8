-- Each sync is one move more.
use Rattle.std.proofs.Common.{◌<◌, arith, length, refl}
use Rattle.nm_leg.specs.Leg.{leg_type}
use Rattle.nm_gate.proofs.Settled.{ends-so, none-yet, one-more, one-move}
use Rattle.nm_gate.proofs.settling.sync_legs.Goals as goal

pub legs-init : goal.legs-init
legs-init g c =
    none-yet (leg_type g.L.LegPart.model g.L.LegPart.honest) c.args.durable.now c.requires.whole c.args.stripe.now c.requires.saved

pub returns-then-not-sync_one-clause-moves : goal.returns-then-not-sync_one-clause-moves
returns-then-not-sync_one-clause-moves g c =
    let there : c.legs.leg < length c.legs.stripe.legs = omega (arith, c.legs-test.true, c.legs-legs.ensures.legs, c.legs-legs.ensures.most, c.legs.invariant.legs) in
    one-move (leg_type g.L.LegPart.model g.L.LegPart.honest) c.args.durable.now c.requires.whole c.args.stripe.now c.requires.saved c.legs.leg c.legs.stripe c.legs.invariant c.legs.leg there c.sync_one.result c.sync_one.new.stripe c.sync_one.ensures

pub legs-preserved : goal.legs-preserved
legs-preserved g c =
    let there : c.legs.leg < length c.legs.stripe.legs = omega (arith, c.legs-test.true, c.legs-legs.ensures.legs, c.legs-legs.ensures.most, c.legs.invariant.legs) in
    one-more (leg_type g.L.LegPart.model g.L.LegPart.honest) c.args.durable.now c.requires.whole c.args.stripe.now c.requires.saved c.legs.leg c.legs.stripe c.legs.invariant c.legs.leg there c.sync_one.result c.sync_one.new.stripe c.sync_one.ensures refl c.if-not-sync_one.false

pub returns-then-not-sync_one-clause-failed : goal.returns-then-not-sync_one-clause-failed
returns-then-not-sync_one-clause-failed g c off =
    ends-so (leg_type g.L.LegPart.model g.L.LegPart.honest) c.legs.leg c.sync_one.result c.legs.stripe c.sync_one.new.stripe c.sync_one.ensures c.if-not-sync_one.true
