-- A replacement is the store's, and the lemmas on it do the rest.
use Rattle.std.proofs.Common.{rules, ◌≡◌, ◌<◌, [], None, length, refl, sym, subst}
use Rattle.nm_leg.specs.Leg.{leg_type}
use Rattle.nm_rules.specs.Attach.{attach_cause}
use Rattle.nm_rules.specs.Invariant.{Keeps}
use Rattle.nm_rules.specs.State.{StripeState}
use Rattle.nm_rules.proofs.AttachLemmas.{may_attach}
use Rattle.nm_rules.proofs.ReplaceLemmas.{replace-keeps, replace-acts}
use Rattle.nm_stripe.proofs.stripe.Stripe.replace.Goals as goal

pub invariant_of-self : goal.invariant_of-self
invariant_of-self g c =
    let s = c.self.inside.store in
    let none : attach_cause s c.args.leg ≡ None = search rules in
    let inside : c.args.leg < length s.legs = subst (λ (s : StripeState _). c.args.leg < length s.legs) (sym c.self.view_is) c.requires.leg in
    let long : length (g.L.LegPart.model c.args.part).contents ≡ s.place.blocks = subst (λ (s : StripeState _). length (g.L.LegPart.model c.args.part).contents ≡ s.place.blocks) (sym c.self.view_is) c.requires.length in
    subst (λ (n : StripeState _). Keeps (leg_type g.L.LegPart.model g.L.LegPart.honest) n) (sym c.replace.ensures)
    (replace-keeps (leg_type g.L.LegPart.model g.L.LegPart.honest) s c.args.leg c.args.part inside c.self.invariant (may_attach s c.args.leg none).out long)

pub returns-clause-acts : goal.returns-clause-acts
returns-clause-acts g c =
    let s = c.self.inside.store in
    let none : attach_cause s c.args.leg ≡ None = search rules in
    let inside : c.args.leg < length s.legs = subst (λ (s : StripeState _). c.args.leg < length s.legs) (sym c.self.view_is) c.requires.leg in
    let long : length (g.L.LegPart.model c.args.part).contents ≡ s.place.blocks = subst (λ (s : StripeState _). length (g.L.LegPart.model c.args.part).contents ≡ s.place.blocks) (sym c.self.view_is) c.requires.length in
    let acts = replace-acts (leg_type g.L.LegPart.model g.L.LegPart.honest) s c.args.leg c.args.part inside c.self.invariant (may_attach s c.args.leg none).out long in
    rw (← c.self.view_is, c.replace.ensures) (record { events = []; marked = refl; acts = acts })
