-- What holds once nothing is left follows from what the stripe keeps.
use Rattle.nm_leg.specs.Leg.{leg_type}
use Rattle.std.proofs.Common.{◌≡◌, sym, ◌∙◌, subst}
use Rattle.nm_choice.specs.declared.leg_state.LegState.TheVariants.{Joining}
use Rattle.nm_rules.specs.State.{StripeState, left, leg_state}
use Rattle.nm_stripe.specs.Bound.{IsCopied}
use Rattle.nm_stripe.proofs.BoundLemmas.{copied-is}
use Rattle.nm_stripe.proofs.stripe.Stripe.left.Goals as goal

pub returns-clause-copied : goal.returns-clause-copied
returns-clause-copied g c none joins =
    let s = c.self.inside.store in
    let joined : leg_state c.args.leg s ≡ Joining = subst (λ (s : StripeState _). leg_state c.args.leg s ≡ Joining) (sym c.self.view_is) joins in
    let is : left c.args.leg s ≡ 0 = sym c.left.ensures ∙ none in
    subst (λ (s : StripeState _). IsCopied c.args.leg s) c.self.view_is
    (copied-is (leg_type g.L.LegPart.model g.L.LegPart.honest) s c.args.leg c.self.invariant is joined)
