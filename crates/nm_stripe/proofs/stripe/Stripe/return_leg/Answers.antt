-- A return is the store's, and the lemmas on it do the rest.
use Rattle.std.proofs.Common.{rules, ◌≡◌, ◌<◌, [], None, length, refl, sym, subst}
use Rattle.nm_leg.specs.Leg.{leg_type}
use Rattle.nm_rules.specs.Attach.{attach_cause, may_lack_each}
use Rattle.nm_rules.specs.Invariant.{Keeps}
use Rattle.nm_rules.specs.Reopening.{Marks}
use Rattle.nm_rules.specs.State.{StripeState}
use Rattle.nm_rules.proofs.AttachLemmas.{may_attach}
use Rattle.nm_rules.proofs.ReturnLemmas.{return-acts, return-keeps}
use Rattle.nm_stripe.proofs.stripe.Stripe.return_leg.Goals as goal

pub invariant_of-self : goal.invariant_of-self
invariant_of-self g c =
    let s = c.self.inside.store in
    let marks : Marks = record { marked = c.args.marked.now; span = c.args.span } in
    let none : attach_cause s c.args.leg ≡ None = search rules in
    let inside : c.args.leg < length s.legs = subst (λ (s : StripeState _). c.args.leg < length s.legs) (sym c.self.view_is) c.requires.leg in
    subst (λ (n : StripeState _). Keeps (leg_type g.L.LegPart.model g.L.LegPart.honest) n) (sym c.return_leg.ensures)
    (return-keeps (leg_type g.L.LegPart.model g.L.LegPart.honest) s c.args.leg (may_lack_each g.L.LegPart.model marks s c.args.leg) inside c.self.invariant (may_attach s c.args.leg none).out)

pub returns-clause-acts : goal.returns-clause-acts
returns-clause-acts g c =
    let s = c.self.inside.store in
    let marks : Marks = record { marked = c.args.marked.now; span = c.args.span } in
    let none : attach_cause s c.args.leg ≡ None = search rules in
    let inside : c.args.leg < length s.legs = subst (λ (s : StripeState _). c.args.leg < length s.legs) (sym c.self.view_is) c.requires.leg in
    let acts = return-acts (leg_type g.L.LegPart.model g.L.LegPart.honest) s c.args.leg (may_lack_each g.L.LegPart.model marks s c.args.leg) inside c.self.invariant (may_attach s c.args.leg none).out in
    rw (← c.self.view_is, c.return_leg.ensures) (record { events = []; marked = refl; acts = acts })
