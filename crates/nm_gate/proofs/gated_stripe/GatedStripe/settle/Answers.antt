-- The syncs are a flush, after which the marks may go.
use Rattle.std.proofs.Common.{◌≡◌, inl, inr, true, false, sym, ◌∙◌}
use Rattle.nm_leg.specs.Leg.{leg_type}
use Rattle.nm_gate.proofs.Settled.{equal-if, hindered-if, leads-if, settled-equal, settled-leads-as, still-leads, unmarked-equal-all}
use Rattle.nm_gate.proofs.gated_stripe.GatedStripe.settle.Goals as goal

pub returns-then-not-has_marks-clause-moves : goal.returns-then-not-has_marks-clause-moves
returns-then-not-has_marks-clause-moves g c =
    leads-if (leg_type g.L.LegPart.model g.L.LegPart.honest) c.args.self.now.stripe _ c.args.self.now.durable _ c.in-Some.durable c.in-Some.is
    (λ is_honest stands. still-leads (leg_type g.L.LegPart.model g.L.LegPart.honest) c.args.self.now.stripe c.in-Some.durable)

pub returns-then-not-has_marks-clause-equal : goal.returns-then-not-has_marks-clause-equal
returns-then-not-has_marks-clause-equal g c =
    equal-if (leg_type g.L.LegPart.model g.L.LegPart.honest) c.args.self.now.stripe c.args.self.now.stripe c.args.self.now.durable c.in-Some.durable _ c.in-Some.is
    (λ is_honest stands outside.
    unmarked-equal-all (leg_type g.L.LegPart.model g.L.LegPart.honest) c.args.self.now.stripe c.in-Some.durable (sym c.has_marks.ensures ∙ c.if-not-has_marks.true) outside)

pub returns-then-not-may_settle-clause-moves : goal.returns-then-not-may_settle-clause-moves
returns-then-not-may_settle-clause-moves g c =
    leads-if (leg_type g.L.LegPart.model g.L.LegPart.honest) c.args.self.now.stripe _ c.args.self.now.durable _ c.in-Some.durable c.in-Some.is
    (λ is_honest stands. still-leads (leg_type g.L.LegPart.model g.L.LegPart.honest) c.args.self.now.stripe c.in-Some.durable)

pub returns-then-not-sync_legs-clause-moves : goal.returns-then-not-sync_legs-clause-moves
returns-then-not-sync_legs-clause-moves g c =
    leads-if (leg_type g.L.LegPart.model g.L.LegPart.honest) c.args.self.now.stripe _ c.args.self.now.durable _ c.in-Some.durable c.in-Some.is
    (λ is_honest stands. c.sync_legs.ensures.moves)

pub returns-clause-moves : goal.returns-clause-moves
returns-clause-moves g c =
    leads-if (leg_type g.L.LegPart.model g.L.LegPart.honest) c.args.self.now.stripe _ c.args.self.now.durable _ c.in-Some.durable c.in-Some.is
    (settled-leads-as (leg_type g.L.LegPart.model g.L.LegPart.honest) c.in-Some.durable c.clear.new.self c.args.self.now.stripe c.sync_legs.new.stripe (c.may_settle.ensures.0 c.if-not-may_settle.false) (c.sync_legs.ensures.synced c.if-not-sync_legs.false) c.clear.ensures)

pub returns-clause-equal : goal.returns-clause-equal
returns-clause-equal g c =
    equal-if (leg_type g.L.LegPart.model g.L.LegPart.honest) c.args.self.now.stripe c.sync_legs.new.stripe c.args.self.now.durable c.in-Some.durable _ c.in-Some.is
    (λ is_honest stands outside.
    settled-equal (leg_type g.L.LegPart.model g.L.LegPart.honest) is_honest c.in-Some.durable c.args.self.now.stripe c.sync_legs.new.stripe (c.may_settle.ensures.0 c.if-not-may_settle.false) stands (c.sync_legs.ensures.synced c.if-not-sync_legs.false))

pub returns-then-not-may_settle-clause-hindered : goal.returns-then-not-may_settle-clause-hindered
returns-then-not-may_settle-clause-hindered g c =
    hindered-if (leg_type g.L.LegPart.model g.L.LegPart.honest) c.args.self.now.stripe _ c.args.self.now.durable c.in-Some.durable _ c.in-Some.is
    (inl (λ may. let on = c.may_settle.ensures.1 may in let clash : true ≡ false = sym on ∙ c.if-not-may_settle.true in cc))

pub returns-then-not-sync_legs-clause-hindered : goal.returns-then-not-sync_legs-clause-hindered
returns-then-not-sync_legs-clause-hindered g c =
    hindered-if (leg_type g.L.LegPart.model g.L.LegPart.honest) c.args.self.now.stripe _ c.args.self.now.durable c.in-Some.durable _ c.in-Some.is
    (inr (c.sync_legs.ensures.failed c.if-not-sync_legs.true))
