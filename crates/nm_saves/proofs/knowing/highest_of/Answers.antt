-- The stamp of one leg more is not higher, and the number is no higher than it has to be.
use Rattle.std.proofs.Common.{◌≤◌, ⊎_elim, ℕ, sym, subst, arith}
use Rattle.std.proofs.lemmas.Bool.{cases_eq}
use Rattle.nm_saves.specs.Files.{file_of, stamp_in}
use Rattle.nm_saves.proofs.knowing.highest_of.Goals as goal

pub legs-preserved : goal.legs-preserved
legs-preserved g c =
    let own = c.legs.invariant.0 in
    let is = c.max-highest.ensures in
    let told = c.stamp_at.ensures in (
      omega (arith, own, is),
      λ leg below. ⊎_elim
          (λ same. subst (λ (n : ℕ). stamp_in (file_of n c.args.files.now) ≤ c.max-highest.result) (sym same) (omega (arith, is, told)))
          (λ other. let bound = c.legs.invariant.1 leg (omega (arith, other, below)) in omega (arith, bound, is))
          (cases_eq leg c.legs.leg),
      λ number after all.
          let before = c.legs.invariant.2 number after (λ leg below. all leg (omega (arith, below))) in
          let here = all c.legs.leg (omega arith) in
          omega (arith, before, here, is, told),
    )
