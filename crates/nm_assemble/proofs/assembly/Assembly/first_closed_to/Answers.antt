-- One stripe more may open on the leg.
use Rattle.std.proofs.Common.{◌<◌, ℕ, arith, ⊎_elim, subst, sym}
use Rattle.std.proofs.lemmas.Bool.{cases_eq}
use Rattle.nm_assemble.specs.Masters.{MayOpenOn}
use Rattle.nm_assemble.proofs.assembly.Assembly.first_closed_to.Goals as goal

pub stripes-preserved : goal.stripes-preserved
stripes-preserved c stripe below inside =
    let of = c.args.self.now in
    ⊎_elim
    (λ same. subst (λ (n : ℕ). MayOpenOn c.args.leg n of.newest of.fresh) (sym same)
    (c.is_closed_to.ensures.opens c.if-is_closed_to.false
    (subst (λ (n : ℕ). n < of.newest.stripes) same inside)))
    (λ other. c.stripes.invariant stripe (omega (arith, other, below)) inside)
    (cases_eq stripe c.stripes.stripe)
