-- Going over the links to a region: what comes next, and what stays as the region is cleared.
use Rattle.std.proofs.Common.{◌≡◌, ℕ, zero, suc, ◌+◌, ◌-◌, ◌<◌, ◌≤◌, Bool, true, false, List, [], ◌∷◌, length, get_or, set, drop, min, Option, Some, None, refl, sym, ap, ◌∙◌, inl, inr, arith}
use Rattle.std.specs.Prelude.{position, IsFalse}
use Rattle.std.specs.Option.{option_map}
use Rattle.std.proofs.Math.Nat.{min-eq_left}
use Rattle.std.proofs.lemmas.Bool.{cases_lt, false≢true, cond_below, cond_above}
use Rattle.std.proofs.lemmas.List.{length-set, length-drop, get_or-drop, get_or_default, drop-drop, drop_all, drop_min}
use Rattle.nm_regions.specs.Links.{before_lowest, next_after, AreLinks, AreLinked, IsLastBelow}
use Rattle.nm_regions.proofs.Linking.{lowest-behind, lowest-position, links-cleared, count-cleared}

-- a region that is behind is one of all
pub behind-within : (flags : List Bool) (k : ℕ) → get_or flags k false ≡ true → k < length flags
behind-within [] k is = absurd (false≢true is)
behind-within (b ∷ flags) zero is = omega arith
behind-within (b ∷ flags) (suc k) is = omega (arith, behind-within flags k is)

-- none below the lowest is behind
lowest-first : (flags : List Bool) (k : ℕ) → get_or flags k false ≡ true → before_lowest flags ≤ k
lowest-first [] k is = absurd (false≢true is)
lowest-first (true ∷ flags) k is = omega arith
lowest-first (false ∷ flags) zero is = absurd (false≢true is)
lowest-first (false ∷ flags) (suc k) is = omega (arith, lowest-first flags k is)

-- none between a region and the next one behind is behind
next-first : (last region : ℕ) (flags : List Bool) → last < region
    → get_or flags region false ≡ true → next_after last flags ≤ region
next-first last region flags lt is =
    let place : suc last + (region - suc last) ≡ region = omega arith in
    let there : get_or (drop (suc last) flags) (region - suc last) false ≡ true =
    get_or-drop (suc last) flags (region - suc last) false
    ∙ ap (λ k. get_or flags k false) place ∙ is in
    omega (arith, lowest-first (drop (suc last) flags) (region - suc last) there)

-- the next region behind is behind
pub next-behind : (last : ℕ) (flags : List Bool) → next_after last flags < length flags
    → get_or flags (next_after last flags) false ≡ true
next-behind last flags lt =
    sym (get_or-drop (suc last) flags (before_lowest (drop (suc last) flags)) false)
    ∙ lowest-behind (drop (suc last) flags) (omega (arith, lt, length-drop (suc last) flags))

-- the link of a region behind names the next one
pub link-is : (at : ℕ) (flags : List Bool) (links : List ℕ) (k d : ℕ) → AreLinks at flags links
    → get_or flags k false ≡ true → get_or links k d ≡ at + next_after k flags
link-is at [] links k d h is = absurd (false≢true is)
link-is at (b ∷ flags) [] k d h is = absurd h
link-is at (b ∷ flags) (next ∷ links) zero d h is = omega (arith, h.0 is)
link-is at (b ∷ flags) (next ∷ links) (suc k) d h is =
    omega (arith, link-is (suc at) flags links k d h.1 is)

-- so the code reads it
pub walk-on : (out : Bool) (flags : List Bool) (count head : ℕ) (links : List ℕ) (last next : ℕ)
    → AreLinked out flags count head links → IsFalse out → get_or flags last false ≡ true
    → next ≡ get_or links last next → next ≡ next_after last flags
walk-on out flags count head links last next h attached is read =
    omega (arith, read, link-is 0 flags links last next (h.linked attached) is)

-- the walk begins at the lowest region behind
pub walk-begins : (out : Bool) (flags : List Bool) (count head : ℕ) (links : List ℕ)
    → AreLinked out flags count head links → IsFalse out → head < length flags
    → get_or flags head false ≡ true
walk-begins out flags count head links h attached lt =
    let same : head ≡ before_lowest flags = h.lowest attached in
    rw same (lowest-behind flags (rw (← same) lt))

-- regions that are not behind are passed over
lowest-passes : (n : ℕ) (flags : List Bool) → n ≤ before_lowest flags
    → n + before_lowest (drop n flags) ≡ before_lowest flags
lowest-passes zero flags le = omega arith
lowest-passes (suc n) [] le = absurd (omega arith)
lowest-passes (suc n) (true ∷ flags) le = absurd (omega arith)
lowest-passes (suc n) (false ∷ flags) le = omega (arith, lowest-passes n flags (omega (arith, le)))

next-passes : (from last : ℕ) (flags : List Bool) → last < from → from ≤ next_after last flags
    → from + before_lowest (drop from flags) ≡ next_after last flags
next-passes from last flags lt le =
    let rest = drop (suc last) flags in
    let place : suc last + (from - suc last) ≡ from = omega arith in
    let same : drop (from - suc last) rest ≡ drop from flags =
    drop-drop (from - suc last) (suc last) flags ∙ ap (λ k. drop k flags) place in
    omega (arith, ap before_lowest same, lowest-passes (from - suc last) rest (omega (arith, le)))

-- the link of the last region behind below a place leads to the lowest that is not below it
pub link-leads : (out : Bool) (flags : List Bool) (count head : ℕ) (links : List ℕ)
    (from last next : ℕ) → AreLinked out flags count head links → IsFalse out
    → IsLastBelow from flags (Some last) → next ≡ get_or links last next
    → next ≡ from + before_lowest (drop from flags)
link-leads out flags count head links from last next h attached is read =
    walk-on out flags count head links last next h attached is.1 read
    ∙ sym (next-passes from last flags is.0 is.2)

-- so does the head, where none is behind below it
pub head-leads : (out : Bool) (flags : List Bool) (count head : ℕ) (links : List ℕ) (from : ℕ)
    → AreLinked out flags count head links → IsFalse out → IsLastBelow from flags None
    → head ≡ from + before_lowest (drop from flags)
head-leads out flags count head links from h attached is =
    h.lowest attached ∙ sym (lowest-passes from flags is)

-- the lowest region behind from a place on, in the words of the contracts
abbrev pub behind_from : ℕ → List Bool → Option ℕ
behind_from from flags =
    option_map (λ k. from + k) (position (λ behind. behind) (drop from flags))

pub next-some : (from : ℕ) (flags : List Bool) (next : ℕ) → from ≤ length flags
    → next ≡ from + before_lowest (drop from flags) → next < length flags
    → Some next ≡ behind_from from flags
next-some from flags next few is lt =
    let rest = drop from flags in
    let below : before_lowest rest < length rest = omega (arith, is, lt, length-drop from flags) in
    ap Some is
    ∙ ap (option_map (λ k. from + k)) (cond_below (before_lowest rest) (length rest)
    (Some (before_lowest rest)) None below ∙ sym (lowest-position rest))

pub next-none : (from : ℕ) (flags : List Bool) (next : ℕ) → from ≤ length flags
    → next ≡ from + before_lowest (drop from flags) → length flags ≤ next
    → None ≡ behind_from from flags
next-none from flags next few is le =
    let rest = drop from flags in
    let above : length rest ≤ before_lowest rest = omega (arith, is, le, few, length-drop from flags) in
    ap (option_map (λ k. from + k)) (cond_above (before_lowest rest) (length rest)
    (Some (before_lowest rest)) None None above refl ∙ sym (lowest-position rest))

-- a place past all regions is as their end
pub behind-clamped : (from : ℕ) (flags : List Bool)
    → behind_from (min from (length flags)) flags ≡ behind_from from flags
behind-clamped from flags =
    elim (cases_lt from (length flags)) [
      | inl below ↦ ap (λ k. behind_from k flags) (min-eq_left (omega arith))
      | inr above ↦
          ap (λ rest. option_map (λ k. min from (length flags) + k)
          (position (λ behind. behind) rest)) (drop_min from flags ∙ drop_all from flags above)
          ∙ sym (ap (λ rest. option_map (λ k. from + k) (position (λ behind. behind) rest))
          (drop_all from flags above))
    ]

-- the regions behind in front of one that is cleared keep the lowest
lowest-kept : (flags : List Bool) (last region : ℕ) → last < region
    → get_or flags last false ≡ true
    → before_lowest (set flags region false) ≡ before_lowest flags
lowest-kept [] last region lt is = absurd (false≢true is)
lowest-kept (b ∷ flags) last zero lt is = absurd (omega arith)
lowest-kept (true ∷ flags) last (suc region) lt is = refl
lowest-kept (false ∷ flags) zero (suc region) lt is = absurd (false≢true is)
lowest-kept (false ∷ flags) (suc last) (suc region) lt is =
    ap suc (lowest-kept flags last region (omega arith) is)

-- the link to a region that is cleared is its own from then on
links-passed : (at : ℕ) (flags : List Bool) (links : List ℕ) (last region : ℕ)
    → AreLinks at flags links → last < region → get_or flags last false ≡ true
    → region ≡ next_after last flags → region < length flags
    → AreLinks at (set flags region false) (set links last (get_or links region 0))
links-passed at [] links last region h lt is next within = absurd (false≢true is)
links-passed at (b ∷ flags) [] last region h lt is next within = absurd h
links-passed at (b ∷ flags) (n ∷ links) last zero h lt is next within = absurd (omega arith)
links-passed at (b ∷ flags) (n ∷ links) zero (suc region) h lt is next within =
    let same : region ≡ before_lowest flags = omega (arith, next) in
    let rest = links-cleared (suc at) flags links h.1 (omega (arith, same, within)) in
    rw same (λ _. rest.1, rest.0)
links-passed at (b ∷ flags) (n ∷ links) (suc last) (suc region) h lt is next within = (
  λ behind. h.0 behind
      ∙ ap (λ k. suc at + k) (sym (lowest-kept flags last region (omega arith) is)),
  links-passed (suc at) flags links last region h.1 (omega arith) is (omega (arith, next))
      (omega (arith, within)),
)

-- how many are behind counts a region that is
pub count-some : (out : Bool) (flags : List Bool) (count head : ℕ) (links : List ℕ) (region : ℕ)
    → AreLinked out flags count head links → get_or flags region false ≡ true → 1 ≤ count
count-some out flags count head links region h is =
    omega (arith, h.counted, count-cleared flags region is)

-- what is linked as a region is cleared, where the link to it came from a region below
pub linked-cleared : (out : Bool) (flags : List Bool) (count head : ℕ) (links : List ℕ)
    (region last next : ℕ) → AreLinked out flags count head links → IsFalse out
    → get_or flags region false ≡ true → IsLastBelow region flags (Some last)
    → next ≡ get_or links region next
    → AreLinked out (set flags region false) (count - 1) head (set links last next)
linked-cleared out flags count head links region last next h attached is at read =
    let within = behind-within flags region is in
    let after : region ≡ next_after last flags =
    omega (arith, at.2, next-first last region flags at.0 is) in
    let named : next ≡ get_or links region 0 =
    read ∙ get_or_default links region next 0 (rw h.places within) in
    record {
      places = length-set links last next ∙ h.places ∙ sym (length-set flags region false);
      few = rw (length-set flags region false) h.few;
      counted = omega (arith, h.counted, count-cleared flags region is);
      lowest = λ _. h.lowest attached ∙ sym (lowest-kept flags last region at.0 at.1);
      linked = λ _. rw named
          (links-passed 0 flags links last region (h.linked attached) at.0 at.1 after within);
    }

-- so where it is the lowest
pub linked-cleared-first : (out : Bool) (flags : List Bool) (count head : ℕ) (links : List ℕ)
    (region next : ℕ) → AreLinked out flags count head links → IsFalse out
    → get_or flags region false ≡ true → IsLastBelow region flags None
    → next ≡ get_or links region next
    → AreLinked out (set flags region false) (count - 1) next links
linked-cleared-first out flags count head links region next h attached is at read =
    let within = behind-within flags region is in
    let first : region ≡ before_lowest flags = omega (arith, at, lowest-first flags region is) in
    let named : next ≡ get_or links region 0 =
    read ∙ get_or_default links region next 0 (rw h.places within) in
    let cleared = links-cleared 0 flags links (h.linked attached) (rw (← first) within) in
    record {
      places = h.places ∙ sym (length-set flags region false);
      few = rw (length-set flags region false) h.few;
      counted = omega (arith, h.counted, count-cleared flags region is);
      lowest = λ _. rw (named, first) (omega (arith, cleared.1));
      linked = λ _. rw first cleared.0;
    }
