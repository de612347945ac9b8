-- One stripe more opens on a leg.
use Rattle.std.proofs.Common.{◌<◌, ℕ, arith, ⊎_elim, subst, sym}
use Rattle.std.proofs.lemmas.Bool.{cases_eq}
use Rattle.nm_assemble.specs.Masters.{IsMaster}
use Rattle.nm_assemble.proofs.masters.closed_stripe.Goals as goal

pub stripes-preserved : goal.stripes-preserved
stripes-preserved c stripe below inside =
    let newest = c.args.newest.now in
    let fresh = c.args.fresh.now in
    ⊎_elim
    (λ same. subst (λ (n : ℕ). (leg : ℕ) × IsMaster leg n newest fresh) (sym same)
    (c.is_closed.ensures.opens c.if-is_closed.false (subst (λ (n : ℕ). n < newest.stripes) same inside)))
    (λ other. c.stripes.invariant stripe (omega (arith, other, below)) inside)
    (cases_eq stripe c.stripes.stripe)
