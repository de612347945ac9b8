-- A claim is read off its calls once, and the lemmas on claims do the rest.
use Rattle.nm_leg.specs.Leg.{leg_type}
use Rattle.std.proofs.Common.{rules, ◌≡◌, None}
use Rattle.nm_rules.specs.RunClaim.{ClaimsRun, claim_run_cause}
use Rattle.nm_rules.proofs.RunClaimLemmas.{claims_run-keeps, claims_run-explained}
use Rattle.nm_stripe.proofs.ClaimLemmas.{claimed-low, named-after, run-landed}
use Rattle.nm_stripe.proofs.stripe.Stripe.claim.Goals as goal

pub claim-claimed-requires-clause-landed : goal.claim-claimed-requires-clause-landed
claim-claimed-requires-clause-landed g c =
    let type = leg_type g.L.LegPart.model g.L.LegPart.honest in
    let s = c.self.inside.store in
    let none : claim_run_cause s c.args.ticket ≡ None = search rules in
    run-landed type s c.args.ticket c.self.invariant none

pub invariant_of-self : goal.invariant_of-self
invariant_of-self g c =
    let type = leg_type g.L.LegPart.model g.L.LegPart.honest in
    claims_run-keeps type c.self.inside.store c.claim-claimed.new.self c.args.ticket _ c.self.invariant c.claim-claimed.ensures.claimed

pub new-requires : goal.new-requires
new-requires g c =
    let type = leg_type g.L.LegPart.model g.L.LegPart.honest in
    let few = claimed-low type c.self.inside.store c.claim-claimed.new.self c.args.ticket _ c.self.invariant c.claim-claimed.ensures.claimed in
    record { some = few.0; most = c.claim-claimed.ensures.most; below = few.1 }

pub returns-clause-ok : goal.returns-clause-ok
returns-clause-ok g c =
    rw (← c.self.view_is) (named-after c.self.inside.store c.claim-claimed.new.self c.args.ticket _ _ _ c.claim-claimed.ensures.claimed c.new.result (search rules))

pub returns-clause-acts : goal.returns-clause-acts
returns-clause-acts g c is_honest =
    let type = leg_type g.L.LegPart.model g.L.LegPart.honest in
    let s = c.self.inside.store in
    let new = c.claim-claimed.new.self in
    let is : ClaimsRun s new c.args.ticket c.new.result = named-after s new c.args.ticket _ _ _ c.claim-claimed.ensures.claimed c.new.result (search rules) in
    rw (← c.self.view_is) (claims_run-explained type s new c.args.ticket c.new.result c.self.invariant is)
