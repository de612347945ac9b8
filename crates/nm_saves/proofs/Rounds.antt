-- A round passes the files of the legs one after the other, each once.
use Rattle.std.proofs.Common.{◌≡◌, ⊎_elim, ℕ, ◌+◌, ◌<◌, ◌≤◌, List, length, Option, Bool, true, false, not, sym, ap, ◌∙◌, subst, refl, arith, set}
use Rattle.std.proofs.lemmas.Bool.{cases_eq}
use Rattle.std.proofs.lemmas.List.{get_or-set_other, get_or-set_same}
use Rattle.nm_geometry.specs.LegSets.{has}
use Rattle.nm_superblock.specs.declared.superblock.Superblock.{Superblock}
use Rattle.nm_saves.specs.FileState.{FileState}
use Rattle.nm_saves.specs.Files.{PassesBeside, SavesAt, SavesBeside, SavesTo, file_of, round_of}

Files : Type 0
Files = List (Option FileState)

has-here : (leg : ℕ) (b : Bool) (legs : List Bool) → leg < length legs → has leg (set legs leg b) ≡ b
has-here leg b legs below = grind (arith, get_or-set_same)

has-other : (k leg : ℕ) (b : Bool) (legs : List Bool) → (k ≡ leg → ⊥) → has k (set legs leg b) ≡ has k legs
has-other k leg b legs differs = grind (arith, get_or-set_other)

not-not : (b : Bool) → not (not b) ≡ b
not-not true = refl
not-not false = refl

-- a leg that the round goes to
passes-here : (honest goes saved failed : Bool) (leg : ℕ) (s : Superblock) (old mid new : Option FileState)
    → goes ≡ true → failed ≡ not saved → mid ≡ old → SavesBeside honest saved leg s mid new → PassesBeside honest goes failed leg s old new
passes-here honest goes saved failed leg s old mid new to is same saves = (
  λ _. subst (λ (o : Option FileState). SavesBeside honest (not failed) leg s o new) same
      (subst (λ (b : Bool). SavesBeside honest b leg s mid new) (sym (ap not is ∙ not-not saved)) saves),
  λ away. absurd (cc),
)

-- a leg that it does not go to
passes-by : (honest goes failed : Bool) (leg : ℕ) (s : Superblock) (old new : Option FileState)
    → goes ≡ false → failed ≡ false → new ≡ old → PassesBeside honest goes failed leg s old new
passes-by honest goes failed leg s old new away fine same = (
  λ to. absurd (cc),
  λ _. (fine, same),
)

passes-as : (honest goes failed failed2 : Bool) (leg : ℕ) (s : Superblock) (old new new2 : Option FileState)
    → failed2 ≡ failed → new2 ≡ new → PassesBeside honest goes failed leg s old new → PassesBeside honest goes failed2 leg s old new2
passes-as honest goes failed failed2 leg s old new new2 is same passes =
    subst (λ (b : Bool). PassesBeside honest goes b leg s old new2) (sym is)
    (subst (λ (o : Option FileState). PassesBeside honest goes failed leg s old o) (sym same) passes)

-- the round goes on to one leg more
pub goes-to : (honest saved : Bool) (leg : ℕ) (s : Superblock) (to failed failed2 : List Bool) (old mid new : List (Option FileState))
    → leg < length failed → has leg to ≡ true → failed2 ≡ set failed leg (not saved)
    → SavesTo leg honest (round_of s to failed) old mid → SavesAt honest saved leg s mid new
    → SavesTo (leg + 1) honest (round_of s to failed2) old new
goes-to honest saved leg s to failed failed2 old mid new room here is before saves = record {
  passed = λ k below. ⊎_elim
      (λ same. subst (λ (n : ℕ). PassesBeside honest (has n to) (has n failed2) n s (file_of n old) (file_of n new)) (sym same)
      (passes-here honest (has leg to) saved (has leg failed2) leg s (file_of leg old) (file_of leg mid) (file_of leg new)
      here (ap (has leg) is ∙ has-here leg (not saved) failed room) (before.others leg (omega arith)) saves.here))
      (λ other. passes-as honest (has k to) (has k failed) (has k failed2) k s (file_of k old) (file_of k mid) (file_of k new)
      (ap (has k) is ∙ has-other k leg (not saved) failed other) (saves.others k other) (before.passed k (omega (arith, other, below))))
      (cases_eq k leg);
  others = λ k above.
      let differs : k ≡ leg → ⊥ = λ same. absurd (omega (arith, same, above)) in
      saves.others k differs ∙ before.others k (omega (arith, above));
}

-- and passes by one
pub goes-by : (honest : Bool) (leg : ℕ) (s : Superblock) (to failed failed2 : List Bool) (old mid new : List (Option FileState))
    → has leg to ≡ false → has leg failed ≡ false → failed2 ≡ failed → new ≡ mid
    → SavesTo leg honest (round_of s to failed) old mid
    → SavesTo (leg + 1) honest (round_of s to failed2) old new
goes-by honest leg s to failed failed2 old mid new away fine is same before = record {
  passed = λ k below. ⊎_elim
      (λ at. subst (λ (n : ℕ). PassesBeside honest (has n to) (has n failed2) n s (file_of n old) (file_of n new)) (sym at)
      (passes-by honest (has leg to) (has leg failed2) leg s (file_of leg old) (file_of leg new)
      away (ap (has leg) is ∙ fine) (ap (file_of leg) same ∙ before.others leg (omega arith))))
      (λ other. passes-as honest (has k to) (has k failed) (has k failed2) k s (file_of k old) (file_of k mid) (file_of k new)
      (ap (has k) is) (ap (file_of k) same) (before.passed k (omega (arith, other, below))))
      (cases_eq k leg);
  others = λ k above. ap (file_of k) same ∙ before.others k (omega (arith, above));
}

-- it failed beside no later leg
pub rest-fine : (leg : ℕ) (b : Bool) (failed failed2 : List Bool) → failed2 ≡ set failed leg b
    → ((k : ℕ) → leg ≤ k → has k failed ≡ false) → (k : ℕ) → leg + 1 ≤ k → has k failed2 ≡ false
rest-fine leg b failed failed2 is fine k above =
    let differs : k ≡ leg → ⊥ = λ same. absurd (omega (arith, same, above)) in
    ap (has k) is ∙ has-other k leg b failed differs ∙ fine k (omega (arith, above))

pub still-fine : (leg : ℕ) (failed failed2 : List Bool) → failed2 ≡ failed
    → ((k : ℕ) → leg ≤ k → has k failed ≡ false) → (k : ℕ) → leg + 1 ≤ k → has k failed2 ≡ false
still-fine leg failed failed2 is fine k above = ap (has k) is ∙ fine k (omega (arith, above))
