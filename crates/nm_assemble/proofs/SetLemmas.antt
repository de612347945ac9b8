-- A set of legs that is built leg by leg, and the sets of stripes that are built stripe by stripe.
use Rattle.std.proofs.Common.{◌≡◌, ◌<◌, ◌≤◌, ◌↔◌, ◌&&◌, ◌+◌, ◌*◌, ◌∙◌, ℕ, Bool, true, false, not, List, IsTrue, length, replicate, slice_set, true≢false, arith, ap, refl, sym, subst, ⊎_elim}
use Rattle.std.proofs.lemmas.Bool.{cases_eq}
use Rattle.std.proofs.lemmas.List.{get_or-replicate, get_or-set_other, get_or-set_same, length-set}
use Rattle.std.proofs.lemmas.List.FromFn.{get_or-map-range_with_len}
use Rattle.nm_geometry.specs.LegSets.{AreBitsOf, has, legs_where}
use Rattle.nm_superblock.specs.declared.leg_sets.LegSets.{LegSets}
use Rattle.nm_assemble.specs.Image.{AreSets, IsEqualTo, IsSetOf, SaysNothing, SaysOf}
use Rattle.nm_assemble.specs.StripeSets.{HasThese, KeepsSets, Puts}

-- one leg more is told, and the others stay
pub one-more : (P : ℕ → Type 0) (count : ℕ) (old new : List Bool) (is_in : Bool)
    → (length old ≡ 8) × HasThese count P old → new ≡ slice_set old count is_in
    → (IsTrue is_in ↔ P count) → count < 8 → (length new ≡ 8) × HasThese (count + 1) P new
one-more P count old new is_in so is means bound = (
  ap length is ∙ length-set old count is_in ∙ so.0,
  λ leg below. ⊎_elim
      (λ same. subst (λ (n : ℕ). IsTrue (has n new) ↔ P n) (sym same)
      (let told : has count new ≡ is_in = ap (λ (set : List Bool). has count set) is
      ∙ get_or-set_same old count is_in false (omega (arith, bound, so.0)) in
      subst (λ (b : Bool). IsTrue b ↔ P count) (sym told) means))
      (λ differs.
      let kept : has leg new ≡ has leg old = ap (λ (set : List Bool). has leg set) is
      ∙ get_or-set_other old count leg is_in false differs in
      subst (λ (b : Bool). IsTrue b ↔ P leg) (sym kept)
      (so.1 leg (omega (arith, differs, below))))
      (cases_eq leg count),
)

-- the bits of the set are of these legs
bits-tell : (P : ℕ → Type 0) (set : List Bool) (bits : ℕ) → HasThese 8 P set → AreBitsOf set bits
    → IsSetOf P bits
bits-tell P set bits these are = λ leg below. (
  λ is. (these leg below).0 ((are leg below).1 is),
  λ p. (are leg below).0 ((these leg below).1 p),
)

and-not : (x y : Bool) → IsTrue (x && not y) → IsTrue x × (IsTrue y → ⊥)
and-not true true is = absurd (true≢false (sym is))
and-not true false is = (refl, λ is_in. true≢false (sym is_in))
and-not false y is = absurd (true≢false (sym is))

not-and : (x y : Bool) → IsTrue x → (IsTrue y → ⊥) → IsTrue (x && not y)
not-and true true is never = absurd (never refl)
not-and true false is never = refl
not-and false y is never = absurd (true≢false (sym is))

-- the equal legs without the master
pub others-told : (master : ℕ) (equal alone : List Bool) → HasThese 8 (λ leg. leg ≡ master) alone
    → HasThese 8 (IsEqualTo master equal)
    (legs_where (λ leg. has leg equal && not (has leg alone)))
others-told master equal alone these leg below =
    let told = get_or-map-range_with_len (λ (n : ℕ). has n equal && not (has n alone)) 0 8 leg leg
    false below (omega arith) in
    subst (λ (b : Bool). IsTrue b ↔ IsEqualTo master equal leg) (sym told) (
      λ is.
          let both = and-not (has leg equal) (has leg alone) is in
          record { other = λ same. both.1 ((these leg below).1 same); equal = both.0 },
      λ of. not-and (has leg equal) (has leg alone) of.equal
          (λ is. of.other ((these leg below).0 is)),
    )

-- nothing is said of the stripes from this one on
abbrev pub NothingFrom : ℕ → LegSets → Type 0
NothingFrom count sets = (stripe : ℕ) → count ≤ stripe → stripe < 64 → SaysNothing stripe sets

nothing-kept : (stripe : ℕ) (old new : LegSets) → KeepsSets stripe old new
    → SaysNothing stripe old → SaysNothing stripe new
nothing-kept stripe old new keeps nothing = record {
  in_sync = keeps.in_sync ∙ nothing.in_sync;
  candidates = keeps.candidates ∙ nothing.candidates;
  partial = keeps.partial ∙ nothing.partial;
}

says-kept : (stripe : ℕ) (a b c : ℕ → Type 0) (old new : LegSets) → KeepsSets stripe old new
    → SaysOf stripe a b c old → SaysOf stripe a b c new
says-kept stripe a b c old new keeps says = record {
  in_sync = subst (IsSetOf a) (sym keeps.in_sync) says.in_sync;
  candidates = subst (IsSetOf b) (sym keeps.candidates) says.candidates;
  partial = subst (IsSetOf c) (sym keeps.partial) says.partial;
}

-- one stripe of the mirror more is told
pub stripe-more : (count stripes : ℕ) (a b c : List Bool)
    (names next lacks : (stripe leg : ℕ) → Type 0)
    (old new : LegSets) → AreSets count stripes names next lacks old → NothingFrom count old
    → Puts count a b c old new → count < stripes
    → HasThese 8 (names count) a → HasThese 8 (next count) b → HasThese 8 (lacks count) c
    → AreSets (count + 1) stripes names next lacks new × NothingFrom (count + 1) new
stripe-more count stripes a b c names next lacks old new so none puts inside own about lacking = (
  record {
    says = λ stripe below bound. ⊎_elim
        (λ same. subst (λ (n : ℕ). SaysOf n (names n) (next n) (lacks n) new) (sym same) (record {
          in_sync = bits-tell (names count) a _ own puts.in_sync;
          candidates = bits-tell (next count) b _ about puts.candidates;
          partial = bits-tell (lacks count) c _ lacking puts.partial;
        }))
        (λ differs. says-kept stripe (names stripe) (next stripe) (lacks stripe) old new
        (puts.others stripe differs)
        (so.says stripe (omega (arith, differs, below)) bound))
        (cases_eq stripe count);
    others = λ stripe below past. ⊎_elim
        (λ same. absurd (omega (arith, same, past, inside)))
        (λ differs. nothing-kept stripe old new (puts.others stripe differs)
        (so.others stripe (omega (arith, differs, below)) past))
        (cases_eq stripe count);
  },
  λ stripe above bound.
      nothing-kept stripe old new (puts.others stripe (λ same. absurd (omega (arith, same, above))))
      (none stripe (omega (arith, above)) bound),
)

-- one stripe more that the mirror has not
pub stripe-past : (count stripes : ℕ) (names next lacks : (stripe leg : ℕ) → Type 0)
    (sets : LegSets) → AreSets count stripes names next lacks sets → NothingFrom count sets
    → count < 64 → stripes ≤ count
    → AreSets (count + 1) stripes names next lacks sets × NothingFrom (count + 1) sets
stripe-past count stripes names next lacks sets so none bound past = (
  record {
    says = λ stripe below own. so.says stripe (omega (arith, below, own, past)) own;
    others = λ stripe below beyond. ⊎_elim
        (λ same. none stripe (omega (arith, same)) (omega (arith, same, bound)))
        (λ differs. so.others stripe (omega (arith, differs, below)) beyond)
        (cases_eq stripe count);
  },
  λ stripe above inside. none stripe (omega (arith, above)) inside,
)

-- the sets of zeroes say nothing
pub nothing-yet : NothingFrom 0 (record { bytes = replicate 256 0 })
nothing-yet stripe above below = record {
  in_sync = get_or-replicate 256 (4 * stripe) 0 0 (omega (arith, below));
  candidates = get_or-replicate 256 (4 * stripe + 1) 0 0 (omega (arith, below));
  partial = get_or-replicate 256 (4 * stripe + 2) 0 0 (omega (arith, below));
}
