-- How a leg's regions behind are kept at hand, the lowest first, and their number.
use Rattle.std.specs.Prelude.{◌≡◌, ℕ, suc, ◌+◌, ◌^◌, ◌<◌, ◌≤◌, Bool, true, false, IsTrue, IsFalse}
use Rattle.std.specs.Prelude.{List, [], ◌∷◌, length, drop, slice_index_or, Option, None, Some}

-- how many of the regions are behind
abbrev pub behind_count : List Bool → ℕ
behind_count [] = 0
behind_count (true ∷ flags) = suc (behind_count flags)
behind_count (false ∷ flags) = behind_count flags

-- how many regions come before the lowest that is behind
abbrev pub before_lowest : List Bool → ℕ
before_lowest [] = 0
before_lowest (true ∷ flags) = 0
before_lowest (false ∷ flags) = suc (before_lowest flags)

-- the next region behind after this one; where none is, the number of regions
abbrev pub next_after : ℕ → List Bool → ℕ
next_after region flags = suc region + before_lowest (drop (suc region) flags)

-- the last region behind below `from` is this one, or none is behind there
abbrev pub IsLastBelow : ℕ → List Bool → Option ℕ → Type 0
IsLastBelow from flags None = from ≤ before_lowest flags
IsLastBelow from flags (Some last) =
    (last < from) × IsTrue (slice_index_or flags last false) × (from ≤ next_after last flags)

-- each region that is behind is linked to the next one that is, or to the end of all regions,
-- where the first of these flags is of region `at`
abbrev pub AreLinks : ℕ → List Bool → List ℕ → Type 0
AreLinks at [] links = Unit {0}
AreLinks at (behind ∷ flags) [] = ⊥
AreLinks at (behind ∷ flags) (next ∷ links) =
    (IsTrue behind → next ≡ suc at + before_lowest flags) × AreLinks (suc at) flags links

-- a leg's counter is that of its flags, and while it is not out so are its links
pub record AreLinked (out : Bool) (flags : List Bool) (count first : ℕ) (links : List ℕ)
    : Type 0 where
  pub places : length links ≡ length flags
  pub few : length flags ≤ 2 ^ 31
  pub counted : count ≡ behind_count flags
  pub lowest : IsFalse out → first ≡ before_lowest flags
  pub linked : IsFalse out → AreLinks 0 flags links
