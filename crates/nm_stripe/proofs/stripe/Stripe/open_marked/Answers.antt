-- A stripe that opens as a plan says has states and regions that go together, and no record.
use Rattle.std.proofs.Common.{rules, ◌<◌, length, sym, subst}
use Rattle.nm_leg.specs.Leg.{leg_type}
use Rattle.nm_rules.specs.Invariant.{Keeps}
use Rattle.nm_rules.specs.Reopening.{OpeningPlan, plan_of, planned}
use Rattle.nm_rules.specs.State.{StripeState}
use Rattle.nm_rules.proofs.ReopeningLemmas.{planned-fits, reopened-keeps}
use Rattle.nm_stripe.proofs.stripe.Stripe.open_marked.Goals as goal

pub invariant_of-result : goal.invariant_of-result
invariant_of-result g c =
    let type = leg_type g.L.LegPart.model g.L.LegPart.honest in
    let plan : OpeningPlan = plan_of c.args.plan.now in
    let inside : plan.master < length plan.others = search rules in
    subst (λ (s : StripeState _). Keeps type s) (sym c.in_ok-store.ensures.opened)
    (reopened-keeps type c.args.place (planned c.args.place c.args.legs.items plan c.args.first c.args.policy)
    (planned-fits c.args.place plan inside type.model c.args.legs.items c.args.first c.args.policy c.requires.each c.requires.sizes c.requires.chunk.some c.requires.lengths)
    c.requires.equal)

pub returns-clause-fits : goal.returns-clause-fits
returns-clause-fits g c =
    let plan : OpeningPlan = plan_of c.args.plan.now in
    let inside : plan.master < length plan.others = search rules in
    planned-fits c.args.place plan inside g.L.LegPart.model c.args.legs.items c.args.first c.args.policy c.requires.each c.requires.sizes c.requires.chunk.some c.requires.lengths
