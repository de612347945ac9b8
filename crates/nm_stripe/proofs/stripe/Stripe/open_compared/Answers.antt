-- An opened stripe has no record and no entry, and its legs were compared.
use Rattle.std.proofs.Common.{◌≡◌, sym, subst}
use Rattle.nm_leg.specs.Leg.{leg_type}
use Rattle.nm_rules.specs.Array.{contents_of, stripe_array}
use Rattle.nm_rules.specs.Comparing.{BehindWhereDiffers}
use Rattle.nm_rules.specs.Invariant.{Keeps}
use Rattle.nm_rules.specs.State.{StripeState}
use Rattle.nm_rules.proofs.ComparedLemmas.{compared_runs-keeps, compared_runs-differs, compared_runs-array}
use Rattle.nm_stripe.proofs.stripe.Stripe.open_compared.Goals as goal

pub invariant_of-result : goal.invariant_of-result
invariant_of-result g c =
    let type = leg_type g.L.LegPart.model g.L.LegPart.honest in
    let o = c.in_ok-store.ensures.opened in
    subst (λ (s : StripeState _). Keeps type s) (sym o.opens)
    (compared_runs-keeps type c.args.place c.args.legs.items c.args.master c.args.first c.args.policy o.end c.requires.sizes c.requires.chunk.some c.requires.lengths c.requires.master o.counts o.all o.compares)

pub returns-clause-differing : goal.returns-clause-differing
returns-clause-differing g c is_honest =
    let type = leg_type g.L.LegPart.model g.L.LegPart.honest in
    let o = c.in_ok-store.ensures.opened in
    subst (λ (s : StripeState _). BehindWhereDiffers type.model s) (sym o.opens)
    (compared_runs-differs type c.args.place c.args.legs.items c.args.master c.args.first c.args.policy o.end c.requires.sizes c.requires.chunk.some c.requires.lengths c.requires.master o.counts o.all o.compares is_honest)

pub returns-clause-array : goal.returns-clause-array
returns-clause-array g c is_honest =
    let type = leg_type g.L.LegPart.model g.L.LegPart.honest in
    let o = c.in_ok-store.ensures.opened in
    subst (λ (s : StripeState _). stripe_array type.model s ≡ contents_of type.model c.args.legs.items c.args.master) (sym o.opens)
    (compared_runs-array type c.args.place c.args.legs.items c.args.master c.args.first c.args.policy o.end c.requires.sizes c.requires.chunk.some c.requires.lengths c.requires.master o.counts o.all o.compares is_honest)
