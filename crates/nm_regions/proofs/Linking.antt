-- A leg's counter and links after each change of its flags, each by going through the flags once.
use Rattle.std.proofs.Common.{◌≡◌, ℕ, zero, suc, ◌+◌, ◌^◌, ◌<◌, ◌≤◌, Bool, true, false, cond, not, List, [], ◌∷◌, length, get_or, set, replicate, Some, None, refl, sym, ap, ◌∙◌, arith}
use mir.Val.{bool_byte}
use Rattle.std.specs.Prelude.{position, nat_lt, IsTrue}
use Rattle.std.specs.List.{list_any, position_or_len}
use Rattle.std.proofs.lemmas.Bool.{lt-ltb, false≢true}
use Rattle.std.proofs.lemmas.List.{length-set, length-replicate}
use Rattle.nm_regions.specs.Links.{behind_count, before_lowest, AreLinks, AreLinked}

-- one more region is behind, unless it was so before
pub count-marked : (flags : List Bool) (k : ℕ) (d : Bool) → k < length flags
    → behind_count (set flags k true) ≡ behind_count flags + cond (not (get_or flags k d)) 1 0
count-marked [] k d lt = absurd (omega arith)
count-marked (true ∷ flags) zero d lt = omega arith
count-marked (false ∷ flags) zero d lt = omega arith
count-marked (true ∷ flags) (suc k) d lt = omega (arith, count-marked flags k d (omega arith))
count-marked (false ∷ flags) (suc k) d lt = count-marked flags k d (omega arith)

-- one region fewer is behind
pub count-cleared : (flags : List Bool) (k : ℕ) → get_or flags k false ≡ true
    → behind_count flags ≡ suc (behind_count (set flags k false))
count-cleared [] k h = absurd cc
count-cleared (true ∷ flags) zero h = refl
count-cleared (false ∷ flags) zero h = absurd cc
count-cleared (true ∷ flags) (suc k) h = ap suc (count-cleared flags k h)
count-cleared (false ∷ flags) (suc k) h = count-cleared flags k h

pub count-all : (n : ℕ) → behind_count (replicate n true) ≡ n
count-all zero = refl
count-all (suc n) = ap suc (count-all n)

pub count-none : (n : ℕ) → behind_count (replicate n false) ≡ 0
count-none zero = refl
count-none (suc n) = count-none n

pub count-le : (flags : List Bool) → behind_count flags ≤ length flags
count-le [] = omega arith
count-le (true ∷ flags) = omega (arith, count-le flags)
count-le (false ∷ flags) = omega (arith, count-le flags)

-- some region is behind just where the count is above 0
pub any-counted : (flags : List Bool)
    → list_any (λ behind. behind) flags ≡ nat_lt 0 (behind_count flags)
any-counted [] = refl
any-counted (true ∷ flags) = sym (lt-ltb 0 (suc (behind_count flags)) (omega arith))
any-counted (false ∷ flags) = any-counted flags

-- the number of regions before the lowest, in the words of the standard library
pub lowest-is : (flags : List Bool) → before_lowest flags ≡ position_or_len (λ behind. behind) flags
lowest-is [] = refl
lowest-is (true ∷ flags) = refl
lowest-is (false ∷ flags) = omega (arith, lowest-is flags)

-- the lowest region behind is behind
pub lowest-behind : (flags : List Bool) → before_lowest flags < length flags
    → get_or flags (before_lowest flags) false ≡ true
lowest-behind [] lt = absurd (omega arith)
lowest-behind (true ∷ flags) lt = refl
lowest-behind (false ∷ flags) lt = lowest-behind flags (omega arith)

-- the lowest region is cleared: the links stay, and its own names the next
pub links-cleared : (at : ℕ) (flags : List Bool) (links : List ℕ) → AreLinks at flags links
    → before_lowest flags < length flags
    → AreLinks at (set flags (before_lowest flags) false) links
    × (get_or links (before_lowest flags) 0
    ≡ at + before_lowest (set flags (before_lowest flags) false))
links-cleared at [] links h lt = absurd (omega arith)
links-cleared at (behind ∷ flags) [] h lt = absurd h
links-cleared at (true ∷ flags) (next ∷ links) h lt = (
  (λ no. absurd (false≢true no), h.1),
  omega (arith, h.0 refl),
)
links-cleared at (false ∷ flags) (next ∷ links) h lt =
    let rest = links-cleared (suc at) flags links h.1 (omega arith) in (
      (λ no. absurd (false≢true no), rest.0),
      omega (arith, rest.1),
    )

-- the lowest region behind, in the words of the contracts
pub lowest-position : (flags : List Bool) → position (λ behind. behind) flags
    ≡ cond (nat_lt (before_lowest flags) (length flags)) (Some (before_lowest flags)) None
lowest-position flags = rw (lowest-is flags) refl

-- a flag as a number
pub byte-is : (b : Bool) → bool_byte b ≡ cond b 1 0
byte-is true = refl
byte-is false = refl

-- a leg that is out: one more region is behind
pub linked-marked : (out : Bool) (flags : List Bool) (count head : ℕ) (links : List ℕ) (k : ℕ)
    (d : Bool) → AreLinked out flags count head links → IsTrue out → k < length flags
    → AreLinked out (set flags k true) (count + cond (not (get_or flags k d)) 1 0) head links
linked-marked out flags count head links k d h gone lt = record {
  places = h.places ∙ sym (length-set flags k true);
  few = rw (length-set flags k true) h.few;
  counted = rw h.counted (sym (count-marked flags k d lt));
  lowest = λ no. absurd (false≢true (sym no ∙ gone));
  linked = λ no. absurd (false≢true (sym no ∙ gone));
}

-- a leg that is out: all regions are behind
pub linked-all : (out : Bool) (flags : List Bool) (count head : ℕ) (links : List ℕ)
    → AreLinked out flags count head links → IsTrue out
    → AreLinked out (replicate (length flags) true) (length flags) head links
linked-all out flags count head links h gone = record {
  places = h.places ∙ sym (length-replicate (length flags) true);
  few = rw (length-replicate (length flags) true) h.few;
  counted = sym (count-all (length flags));
  lowest = λ no. absurd (false≢true (sym no ∙ gone));
  linked = λ no. absurd (false≢true (sym no ∙ gone));
}

count-new : (regions : ℕ) (in_sync : Bool)
    → cond in_sync 0 regions ≡ behind_count (replicate regions (not in_sync))
count-new regions true = sym (count-none regions)
count-new regions false = sym (count-all regions)

-- a leg with no links yet
pub linked-new : (regions head : ℕ) (links : List ℕ) (in_sync : Bool) → regions ≤ 2 ^ 31
    → length links ≡ regions
    → AreLinked true (replicate regions (not in_sync)) (cond in_sync 0 regions) head links
linked-new regions head links in_sync few places = record {
  places = places ∙ sym (length-replicate regions (not in_sync));
  few = rw (length-replicate regions (not in_sync)) few;
  counted = count-new regions in_sync;
  lowest = λ no. absurd (false≢true (sym no));
  linked = λ no. absurd (false≢true (sym no));
}
