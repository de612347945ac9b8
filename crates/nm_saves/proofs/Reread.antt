-- Files are read again one after the other, each once.
use Rattle.std.proofs.Common.{◌≡◌, ⊎_elim, ℕ, ◌+◌, List, Option, Bool, sym, ◌∙◌, subst, arith}
use Rattle.std.proofs.lemmas.Bool.{cases_eq}
use Rattle.nm_saves.specs.FileState.{FileState}
use Rattle.nm_saves.specs.Files.{file_of}
use Rattle.nm_saves.specs.Rereading.{RereadsAt, RereadsBeside, RereadsTo}

pub reread-on : (honest : Bool) (leg : ℕ) (old mid new : List (Option FileState)) → RereadsTo leg honest old mid → RereadsAt honest leg mid new → RereadsTo (leg + 1) honest old new
reread-on honest leg old mid new before at = record {
  read = λ k below. ⊎_elim
      (λ same. subst (λ (n : ℕ). RereadsBeside honest (file_of n old) (file_of n new)) (sym same)
      (subst (λ (o : Option FileState). RereadsBeside honest o (file_of leg new)) (before.others leg (omega arith)) at.here))
      (λ other. subst (λ (o : Option FileState). RereadsBeside honest (file_of k old) o) (sym (at.others k other)) (before.read k (omega (arith, other, below))))
      (cases_eq k leg);
  others = λ k above.
      let differs : k ≡ leg → ⊥ = λ same. absurd (omega (arith, same, above)) in
      at.others k differs ∙ before.others k (omega (arith, above));
}
