-- A leg goes out: its flags are marked one after the other, from the last region to the first.
use Rattle.std.proofs.Common.{◌≡◌, ℕ, zero, suc, ◌+◌, ◌-◌, ◌<◌, ◌≤◌, Bool, true, false, cond, not, ◌==◌, ◌||◌, List, ◌∷◌, length, get_or, set, drop, refl, sym, ap, ◌∙◌, arith}
use mir.Val.{bool_byte}
use Rattle.std.proofs.Math.Seq.{drop-cons}
use Rattle.std.proofs.lemmas.List.{drop-set, get_or-set_other, length-set, length-drop}
use Rattle.nm_regions.specs.LegFlags.{dirty_marked}
use Rattle.nm_regions.specs.Links.{behind_count}
use Rattle.nm_regions.proofs.Linking.{count-le}

-- the flags, and how many are set, once the regions from `at` on are marked
pub record AreDirtied (at : ℕ) (writes : List ℕ) (old now : List Bool) (count : ℕ) : Type 0 where
  pub within : at ≤ length now
  pub same : length now ≡ length old
  pub before : (k : ℕ) → k < at → get_or now k false ≡ get_or old k false
  pub marked : drop at now ≡ dirty_marked (drop at writes) (drop at old)
  pub counted : count ≡ behind_count (drop at now)

count-head : (behind : Bool) (flags : List Bool)
    → behind_count flags + bool_byte behind ≡ behind_count (behind ∷ flags)
count-head true flags = omega arith
count-head false flags = omega arith

-- a flag that is marked, as the code and the definition have it
pub flag-is : (quiet behind : Bool) → cond quiet behind true ≡ (behind || not quiet)
flag-is true true = refl
flag-is true false = refl
flag-is false true = refl
flag-is false false = refl

-- one more region is marked and counted
step-on : (at : ℕ) (writes : List ℕ) (old now : List Bool) (count : ℕ)
    → AreDirtied (suc at) writes old now count → length writes ≡ length old
    → AreDirtied at writes old
    (set now at (get_or now at false || not (get_or writes at 0 == 0)))
    (count + bool_byte (get_or now at false || not (get_or writes at 0 == 0)))
step-on at writes old now count h places =
    let lt : at < length now = omega (arith, h.within) in
    let flag = get_or now at false || not (get_or writes at 0 == 0) in
    let next : at + 1 ≡ suc at = omega arith in
    let rest : drop at (set now at flag) ≡ flag ∷ drop (suc at) now =
    drop-set now at flag lt ∙ ap (λ n. flag ∷ drop n now) next in
    let olds : drop at old ≡ get_or old at false ∷ drop (suc at) old =
    drop-cons old at false (omega (arith, h.same)) in
    let all : drop at writes ≡ get_or writes at 0 ∷ drop (suc at) writes =
    drop-cons writes at 0 (omega (arith, h.same, places)) in
    record {
      within = rw (length-set now at flag) (omega (arith, h.within));
      same = length-set now at flag ∙ h.same;
      before = λ k below. get_or-set_other now at k flag false (λ is. omega (arith, below, is))
          ∙ h.before k (omega (arith, below));
      marked = rest ∙ ap (λ flags. flag ∷ flags) h.marked
          ∙ ap (λ b. (b || not (get_or writes at 0 == 0))
          ∷ dirty_marked (drop (suc at) writes) (drop (suc at) old)) (h.before at (omega arith))
          ∙ ap (λ b. b ∷ dirty_marked (drop (suc at) writes) (drop (suc at) old))
          (sym (flag-is (get_or writes at 0 == 0) (get_or old at false)))
          ∙ sym (ap (λ n. dirty_marked n (drop at old)) all
          ∙ ap (dirty_marked (get_or writes at 0 ∷ drop (suc at) writes)) olds);
      counted = ap (λ n. n + bool_byte flag) h.counted ∙ count-head flag (drop (suc at) now)
          ∙ sym (ap behind_count rest);
    }

pub dirty-step : (at : ℕ) (writes : List ℕ) (old now : List Bool) (count : ℕ) → 0 < at
    → AreDirtied at writes old now count → length writes ≡ length old
    → AreDirtied (at - 1) writes old
    (set now (at - 1) (get_or now (at - 1) false || not (get_or writes (at - 1) 0 == 0)))
    (count + bool_byte (get_or now (at - 1) false || not (get_or writes (at - 1) 0 == 0)))
dirty-step zero writes old now count some h places = absurd (omega arith)
dirty-step (suc at) writes old now count some h places =
    let same : suc at - 1 ≡ at = omega arith in
    rw same (step-on at writes old now count h places)

-- no more flags are counted than there are
pub dirty-few : (at : ℕ) (writes : List ℕ) (old now : List Bool) (count : ℕ)
    → AreDirtied at writes old now count → count ≤ length old
dirty-few at writes old now count h =
    omega (arith, h.counted, h.same, count-le (drop at now), length-drop at now)
