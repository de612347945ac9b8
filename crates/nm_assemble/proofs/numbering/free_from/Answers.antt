-- This number is said too.
use Rattle.std.proofs.Common.{rules, ℕ, arith, sym, subst, ⊎_elim}
use Rattle.std.proofs.lemmas.Bool.{cases_eq}
use Rattle.nm_assemble.specs.Numbering.{IsSaid}
use Rattle.nm_assemble.proofs.numbering.free_from.Goals as goal

pub numbers-preserved : goal.numbers-preserved
numbers-preserved c = λ other low below. ⊎_elim
    (λ same. subst (λ (n : ℕ). IsSaid 8 n c.args.said.now) (sym same)
    (c.is_said.ensures.0 (search rules)))
    (λ differs. c.numbers.invariant other low (omega (arith, differs, below)))
    (cases_eq other c.numbers.number)
