-- What is kept of the errors, one leg after the other.
use Rattle.std.proofs.Common.{◌≡◌, ⊎_elim, ℕ, ◌+◌, ◌<◌, ◌≤◌, List, length, Option, None, Some, Bool, false, not, sym, ap, ◌∙◌, subst, refl, arith, set}
use Rattle.std.proofs.lemmas.Bool.{cases_eq}
use Rattle.std.proofs.lemmas.List.{get_or-set_other, get_or-set_same}
use Rattle.std.specs.declared.io.Error.{Error}
use Rattle.nm_geometry.specs.LegSets.{has}
use Rattle.nm_saves.specs.Errors.{KeepsErrors, KeepsFirst, TellsReading, error_of}
use Rattle.nm_saves.specs.FileState.{FileState}
use Rattle.nm_saves.specs.Files.{file_of}
use Rattle.nm_saves.specs.Rereading.{RereadsAt, TellsTo}

-- where a save did not fail, the error stays
pub kept-same : (old new : Option Error) → KeepsFirst false old new → new ≡ old
kept-same None None kept = refl
kept-same None (Some error) kept = absurd (cc)
kept-same (Some error) new kept = kept

pub same-kept : (old new : Option Error) → new ≡ old → KeepsFirst false old new
same-kept None new same = grind arith
same-kept (Some error) new same = same

-- the error of one leg more is kept
pub keeps-at : (leg : ℕ) (saved : Bool) (failed failed2 : List Bool) (old mid new : List (Option Error)) (first : Option Error)
    → leg < length failed → leg < length mid → has leg failed ≡ false → failed2 ≡ set failed leg (not saved) → new ≡ set mid leg first
    → KeepsErrors failed old mid → KeepsFirst (not saved) (error_of leg mid) first → KeepsErrors failed2 old new
keeps-at leg saved failed failed2 old mid new first room inside fine is are before here = λ k. ⊎_elim
    (λ same. subst (λ (n : ℕ). KeepsFirst (has n failed2) (error_of n old) (error_of n new)) (sym same) at)
    (λ other. subst (λ (b : Bool). KeepsFirst b (error_of k old) (error_of k new)) (sym (ap (has k) is ∙ get_or-set_other failed leg k (not saved) false other))
    (subst (λ (e : Option Error). KeepsFirst (has k failed) (error_of k old) e) (sym (ap (error_of k) are ∙ get_or-set_other mid leg k first None other)) (before k)))
    (cases_eq k leg)
  where
    was : error_of leg mid ≡ error_of leg old
    was = kept-same (error_of leg old) (error_of leg mid) (subst (λ (b : Bool). KeepsFirst b (error_of leg old) (error_of leg mid)) fine (before leg))

    at : KeepsFirst (has leg failed2) (error_of leg old) (error_of leg new)
    at = subst (λ (b : Bool). KeepsFirst b (error_of leg old) (error_of leg new)) (sym (ap (has leg) is ∙ get_or-set_same failed leg (not saved) false room))
        (subst (λ (e : Option Error). KeepsFirst (not saved) (error_of leg old) e) (sym (ap (error_of leg) are ∙ get_or-set_same mid leg first None inside))
        (subst (λ (e : Option Error). KeepsFirst (not saved) e first) was here))

-- no error is touched
pub keeps-by : (failed failed2 : List Bool) (old mid new : List (Option Error)) → failed2 ≡ failed → new ≡ mid
    → KeepsErrors failed old mid → KeepsErrors failed2 old new
keeps-by failed failed2 old mid new is same before = λ k.
    subst (λ (b : Bool). KeepsFirst b (error_of k old) (error_of k new)) (sym (ap (has k) is))
    (subst (λ (e : Option Error). KeepsFirst (has k failed) (error_of k old) e) (sym (ap (error_of k) same)) (before k))

-- the error of one leg more tells how its file was read
pub tells-on : (honest : Bool) (leg : ℕ) (old mid new : List (Option FileState)) (errors kept next : List (Option Error)) (last : Option Error)
    → leg < length kept → next ≡ set kept leg last
    → ((k : ℕ) → leg ≤ k → file_of k mid ≡ file_of k old)
    → TellsTo leg old mid errors kept → RereadsAt honest leg mid new
    → TellsReading (file_of leg mid) (file_of leg new) (error_of leg kept) last → TellsTo (leg + 1) old new errors next
tells-on honest leg old mid new errors kept next last inside is untouched before at here = record {
  told = λ k below. ⊎_elim
      (λ same. subst (λ (n : ℕ). TellsReading (file_of n old) (file_of n new) (error_of n errors) (error_of n next)) (sym same)
      (subst (λ (o : Option FileState). TellsReading o (file_of leg new) (error_of leg errors) (error_of leg next)) (untouched leg (omega arith))
      (subst (λ (e : Option Error). TellsReading (file_of leg mid) (file_of leg new) e (error_of leg next)) (before.others leg (omega arith))
      (subst (λ (e : Option Error). TellsReading (file_of leg mid) (file_of leg new) (error_of leg kept) e) (sym (ap (error_of leg) is ∙ get_or-set_same kept leg last None inside)) here))))
      (λ other. subst (λ (o : Option FileState). TellsReading (file_of k old) o (error_of k errors) (error_of k next)) (sym (at.others k other))
      (subst (λ (e : Option Error). TellsReading (file_of k old) (file_of k mid) (error_of k errors) e) (sym (ap (error_of k) is ∙ get_or-set_other kept leg k last None other))
      (before.told k (omega (arith, other, below)))))
      (cases_eq k leg);
  others = λ k above.
      let differs : k ≡ leg → ⊥ = λ same. absurd (omega (arith, same, above)) in
      ap (error_of k) is ∙ get_or-set_other kept leg k last None differs ∙ before.others k (omega (arith, above));
}
