-- One leg more has its number.
use Rattle.std.proofs.Common.{◌≡◌, ◌≢◌, ◌<◌, ◌≤◌, ◌+◌, ◌∙◌, ℕ, List, Option, None, Some, arith, refl, sym, subst, length, slice_index, slice_set, ⊎_elim}
use Rattle.std.proofs.lemmas.Bool.{cases_eq}
use Rattle.std.proofs.lemmas.List.{get_or-set_other, get_or-set_same}
use Rattle.nm_assemble.specs.Numbering.{AreNumbers, IsSaid, Says, number_of}

at : (numbers : List ℕ) (leg number : ℕ) → leg < length numbers
    → slice_index (slice_set numbers leg number) leg ≡ number
at numbers leg number inside = get_or-set_same numbers leg number 0 inside

past : (numbers : List ℕ) (leg number other : ℕ) → other ≢ leg
    → slice_index (slice_set numbers leg number) other ≡ slice_index numbers other
past numbers leg number other differs = get_or-set_other numbers leg other number 0 differs

-- the first legs that say no number have numbers below this one
abbrev pub AreBelow : (legs next : ℕ) → (said : List (Option ℕ)) → (numbers : List ℕ) → Type 0
AreBelow legs next said numbers =
    (leg : ℕ) → leg < legs → number_of leg said ≡ None → slice_index numbers leg < next

-- what a leg that says a number is given, and what is next then
abbrev pub HasOwn : (leg next number after : ℕ) → List (Option ℕ) → Type 0
HasOwn leg next number after said =
    (n : ℕ) → Says leg n said → (number ≡ n) × (after ≡ next)

-- and one that says none
abbrev pub HasLeft : (leg count next number after : ℕ) → List (Option ℕ) → Type 0
HasLeft leg count next number after said = number_of leg said ≡ None
    → (next ≤ number) × (number < count) × (after ≡ number + 1) × (IsSaid 8 number said → ⊥)

pub numbers-more : (leg count next number after : ℕ) (said : List (Option ℕ))
    (numbers : List ℕ) → leg < length numbers → AreNumbers leg count said numbers
    → AreBelow leg next said numbers → HasOwn leg next number after said
    → HasLeft leg count next number after said
    → AreNumbers (leg + 1) count said (slice_set numbers leg number)
numbers-more leg count next number after said numbers inside so under own left =
    let new = slice_set numbers leg number in
    record {
      own = λ l n low says. ⊎_elim
          (λ same. subst (λ (m : ℕ). Says m n said → slice_index new m ≡ n) (sym same)
          (λ s. at numbers leg number inside ∙ (own n s).0) says)
          (λ differs. past numbers leg number l differs
          ∙ so.own l n (omega (arith, differs, low)) says)
          (cases_eq l leg);
      below = λ l low none. ⊎_elim
          (λ same. subst (λ (m : ℕ). number_of m said ≡ None → slice_index new m < count)
          (sym same)
          (λ s. subst (λ (k : ℕ). k < count) (sym (at numbers leg number inside)) (left s).1)
          none)
          (λ differs. subst (λ (k : ℕ). k < count) (sym (past numbers leg number l differs))
          (so.below l (omega (arith, differs, low)) none))
          (cases_eq l leg);
      unsaid = λ l low none. ⊎_elim
          (λ same. subst
          (λ (m : ℕ). number_of m said ≡ None → IsSaid 8 (slice_index new m) said → ⊥)
          (sym same)
          (λ s. subst (λ (k : ℕ). IsSaid 8 k said → ⊥) (sym (at numbers leg number inside))
          (left s).3)
          none)
          (λ differs. subst (λ (k : ℕ). IsSaid 8 k said → ⊥)
          (sym (past numbers leg number l differs))
          (so.unsaid l (omega (arith, differs, low)) none))
          (cases_eq l leg);
      rising = λ l other less low first second.
          let early = past numbers leg number l (λ same. absurd (omega (arith, same, less, low))) in
          ⊎_elim
          (λ same. subst
          (λ (m : ℕ). number_of m said ≡ None → l < m → slice_index new l < slice_index new m)
          (sym same)
          (λ s ahead.
          let here = at numbers leg number inside in
          let least = under l ahead first in
          let from = (left s).0 in
          omega (arith, early, here, least, from))
          second less)
          (λ differs.
          let late = past numbers leg number other differs in
          let before = so.rising l other less (omega (arith, differs, low)) first second in
          omega (arith, early, late, before))
          (cases_eq other leg);
    }

-- what is next is never lower
rises : (leg count next number after : ℕ) (said : List (Option ℕ)) (has : Option ℕ)
    → number_of leg said ≡ has → HasOwn leg next number after said
    → HasLeft leg count next number after said → next ≤ after
rises leg count next number after said (Some n) is own left =
    let same = (own n is).1 in omega (arith, same)
rises leg count next number after said None is own left =
    let from = (left is).0 in let same = (left is).2 in omega (arith, from, same)

pub below-more : (leg count next number after : ℕ) (said : List (Option ℕ))
    (numbers : List ℕ) → leg < length numbers → AreBelow leg next said numbers
    → HasOwn leg next number after said → HasLeft leg count next number after said
    → AreBelow (leg + 1) after said (slice_set numbers leg number)
below-more leg count next number after said numbers inside under own left = λ l low none. ⊎_elim
    (λ same. subst
    (λ (m : ℕ). number_of m said ≡ None
    → slice_index (slice_set numbers leg number) m < after)
    (sym same)
    (λ s.
    let here = at numbers leg number inside in
    let last = (left s).2 in
    omega (arith, here, last))
    none)
    (λ differs.
    let kept = past numbers leg number l differs in
    let least = under l (omega (arith, differs, low)) none in
    let up = rises leg count next number after said (number_of leg said) refl own left in
    omega (arith, kept, least, up))
    (cases_eq l leg)
