-- Identities that are recorded leg by leg.
use Rattle.std.proofs.Common.{◌≡◌, ◌<◌, ◌≤◌, ◌+◌, ◌∙◌, ℕ, Bool, false, List, IsTrue, arith, refl, sym, subst, ⊎_elim}
use Rattle.std.proofs.lemmas.Bool.{cases_eq}
use Rattle.nm_geometry.specs.LegSets.{has}
use Rattle.nm_superblock.specs.declared.leg_identities.LegIdentities.{LegIdentities}
use Rattle.nm_superblock.specs.Identities.{IsSameIdentity, Puts}
use Rattle.nm_assemble.specs.Own.{Records}

-- the first legs are recorded, and the others as before
pub record RecordsUpTo (count : ℕ) (own : List Bool) (here old new : LegIdentities) : Type 0 where
  pub told : Records count own here old new
  pub rest : (leg : ℕ) → count ≤ leg → leg < 8 → IsSameIdentity leg new leg old

same-self : (leg : ℕ) (a : LegIdentities) → IsSameIdentity leg a leg a
same-self leg a = record { first = refl; second = refl; third = refl; fourth = refl }

same-through : (leg : ℕ) (a b c : LegIdentities) → IsSameIdentity leg a leg b → IsSameIdentity leg b leg c → IsSameIdentity leg a leg c
same-through leg a b c one two = record {
  first = one.first ∙ two.first;
  second = one.second ∙ two.second;
  third = one.third ∙ two.third;
  fourth = one.fourth ∙ two.fourth;
}

-- none is recorded yet
pub records-none : (own : List Bool) (here old : LegIdentities) → RecordsUpTo 0 own here old old
records-none own here old = record {
  told = λ leg below. absurd (omega (arith, below));
  rest = λ leg above below. same-self leg old;
}

-- one leg more, which is its own
pub records-own : (count : ℕ) (own : List Bool) (here old new next : LegIdentities) → RecordsUpTo count own here old new
    → IsTrue (has count own) → Puts count count here new next → count < 8 → RecordsUpTo (count + 1) own here old next
records-own count own here old new next so is puts bound = record {
  told = λ leg below. ⊎_elim
      (λ same. subst (λ (n : ℕ). (IsTrue (has n own) → IsSameIdentity n next n here) × (has n own ≡ false → IsSameIdentity n next n old)) (sym same)
      ((λ its. puts.here), (λ other. absurd (never (has count own) is other))))
      (λ differs.
      let kept = puts.rest leg (omega (arith, below, bound)) differs in
      let before = so.told leg (omega (arith, differs, below)) in
      ((λ its. same-through leg next new here kept (before.0 its)), (λ other. same-through leg next new old kept (before.1 other))))
      (cases_eq leg count);
  rest = λ leg above inside.
      same-through leg next new old
      (puts.rest leg inside (λ same. absurd (omega (arith, same, above))))
      (so.rest leg (omega (arith, above)) inside);
}
  where
    never : (b : Bool) → IsTrue b → b ≡ false → ⊥
    never b is other = cc

-- one leg more, which is not
pub records-other : (count : ℕ) (own : List Bool) (here old new : LegIdentities) → RecordsUpTo count own here old new
    → has count own ≡ false → count < 8 → RecordsUpTo (count + 1) own here old new
records-other count own here old new so is bound = record {
  told = λ leg below. ⊎_elim
      (λ same. subst (λ (n : ℕ). (IsTrue (has n own) → IsSameIdentity n new n here) × (has n own ≡ false → IsSameIdentity n new n old)) (sym same)
      ((λ its. absurd (never (has count own) its is)), (λ other. so.rest count (omega arith) bound)))
      (λ differs. so.told leg (omega (arith, differs, below)))
      (cases_eq leg count);
  rest = λ leg above inside. so.rest leg (omega (arith, above)) inside;
}
  where
    never : (b : Bool) → IsTrue b → b ≡ false → ⊥
    never b is other = cc
