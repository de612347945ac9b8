-- An opened stripe has no record and no entry, and its honest legs hold equal contents.
use Rattle.std.proofs.Common.{rules, ◌≡◌, sym, subst}
use Rattle.nm_leg.specs.Leg.{leg_type}
use Rattle.nm_rules.specs.Invariant.{Keeps}
use Rattle.nm_rules.specs.Opening.{opened}
use Rattle.nm_rules.specs.State.{StripeState}
use Rattle.nm_stripe.proofs.OpeningLemmas.{opening-keeps}
use Rattle.nm_stripe.proofs.stripe.Stripe.open.Goals as goal

pub invariant_of-result : goal.invariant_of-result
invariant_of-result g c =
    let is : c.in_ok-store.store ≡ opened c.args.place c.args.legs.items c.args.in_sync c.args.first c.args.policy = search rules in
    subst (λ (s : StripeState _). Keeps (leg_type g.L.LegPart.model g.L.LegPart.honest) s) (sym is)
    (opening-keeps (leg_type g.L.LegPart.model g.L.LegPart.honest) c.args.place c.args.legs.items c.args.in_sync c.args.first c.args.policy c.requires.sizes c.requires.chunk c.requires.lengths c.requires.some_in_sync c.requires.equal)
