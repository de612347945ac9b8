-- What is left of the leg stands in the store and returns there, and the lemmas on that do the rest.
use Rattle.std.proofs.Common.{rules, ◌≡◌, ◌<◌, true, [], None, length, refl, sym, subst}
use Rattle.nm_leg.specs.Leg.{leg_type}
use Rattle.nm_rules.specs.Attach.{attach_cause}
use Rattle.nm_rules.specs.Invariant.{Keeps}
use Rattle.nm_rules.specs.Losing.{CoversLoss, LosesPower}
use Rattle.nm_rules.specs.Reopening.{Marks}
use Rattle.nm_rules.specs.State.{StripeState, is_out, leg_state}
use Rattle.nm_rules.proofs.LossLemmas.{lost-acts, lost-keeps, returns-lost}
use Rattle.nm_stripe.proofs.stripe.Stripe.return_lost.Goals as goal

pub invariant_of-self : goal.invariant_of-self
invariant_of-self g c =
    let s = c.self.inside.store in
    let model = g.L.LegPart.model in
    let marks : Marks = record { marked = c.args.marked.now; span = c.args.span } in
    let none : attach_cause s c.args.leg ≡ None = search rules in
    let inside : c.args.leg < length s.legs = subst (λ (s : StripeState _). c.args.leg < length s.legs) (sym c.self.view_is) c.requires.leg in
    let loses = subst (λ (s : StripeState _). is_out (leg_state c.args.leg s) ≡ true → LosesPower model s c.args.leg c.args.part) (sym c.self.view_is) c.requires.lost in
    let covers = subst (λ (s : StripeState _). CoversLoss model s c.args.leg c.args.part marks) (sym c.self.view_is) c.requires.covered in
    lost-keeps (leg_type model g.L.LegPart.honest) s _ c.args.leg c.args.part marks c.self.invariant
    (returns-lost model s _ _ c.args.leg c.args.part marks inside none loses covers c.stand_in.ensures c.return_leg.ensures)

pub returns-clause-acts : goal.returns-clause-acts
returns-clause-acts g c =
    let s = c.self.inside.store in
    let model = g.L.LegPart.model in
    let marks : Marks = record { marked = c.args.marked.now; span = c.args.span } in
    let none : attach_cause s c.args.leg ≡ None = search rules in
    let inside : c.args.leg < length s.legs = subst (λ (s : StripeState _). c.args.leg < length s.legs) (sym c.self.view_is) c.requires.leg in
    let loses = subst (λ (s : StripeState _). is_out (leg_state c.args.leg s) ≡ true → LosesPower model s c.args.leg c.args.part) (sym c.self.view_is) c.requires.lost in
    let covers = subst (λ (s : StripeState _). CoversLoss model s c.args.leg c.args.part marks) (sym c.self.view_is) c.requires.covered in
    let acts = lost-acts (leg_type model g.L.LegPart.honest) s _ c.args.leg c.args.part marks c.self.invariant
    (returns-lost model s _ _ c.args.leg c.args.part marks inside none loses covers c.stand_in.ensures c.return_leg.ensures) in
    rw (← c.self.view_is) (record { events = []; marked = refl; acts = acts })
