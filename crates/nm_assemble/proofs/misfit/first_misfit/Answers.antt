-- The superblock of one leg more goes with the newest one.
use Rattle.std.proofs.Common.{◌≡◌, ℕ, None, Some, arith, ⊎_elim, subst, sym}
use Rattle.std.proofs.lemmas.Bool.{cases_eq}
use Rattle.nm_assemble.specs.Start.{IsMisfit, beside}
use Rattle.nm_assemble.proofs.misfit.first_misfit.Goals as goal

pub legs-preserved : goal.legs-preserved
legs-preserved c leg s below is =
    ⊎_elim
    (λ same. subst (λ (n : ℕ). IsMisfit n s c.args.newest.now None) (sym same)
    (c.in_default.ensures.none s (subst (λ (n : ℕ). beside n c.args.found.now ≡ Some s) same is)))
    (λ other. c.legs.invariant leg s (omega (arith, other, below)) is)
    (cases_eq leg c.legs.leg)

pub returns-clause-none : goal.returns-clause-none
returns-clause-none c leg s below is = c.legs.invariant leg s (omega arith) is
