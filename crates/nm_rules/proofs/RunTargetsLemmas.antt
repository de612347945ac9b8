-- A run that may begin owes the same legs at each of its blocks.
use Rattle.std.proofs.Common.{◌≡◌, ℕ, ◌+◌, ◌*◌, ◌/◌, ◌%◌, ◌<◌, ◌≤◌, ◌==◌, ◌&&◌, ◌||◌, Bool, true, false, nat_lt, List, [], ◌∷◌, map, Option, None, Some, refl, ap, ◌∙◌, arith}
use Rattle.std.proofs.lemmas.Bool.Decides.{nat_tests}
use Rattle.std.proofs.lemmas.Nat.{div-add-mod', div-mul-add, mod-mul-add}
use Rattle.nm_regions.specs.declared.copy_place.CopyPlace.{CopyPlace}
use Rattle.nm_regions.specs.Table.{RegionTable, has_copied, has_region, is_current, targets}
use Rattle.nm_rules.specs.RunBegin.{meets_copy}
use Rattle.nm_rules.specs.State.{Chunk, lies_in}
use Rattle.nm_rules.proofs.RecordLemmas.{same}

-- a run that meets no open chunk has no block in one
pub run-apart : (size : ℕ) (copy : Option CopyPlace) (chunk : Option Chunk) (first count b : ℕ) → meets_copy size copy chunk first count ≡ false → first ≤ b → b < first + count → lies_in size copy chunk b ≡ false
run-apart size None chunk first count b apart low high = refl
run-apart size (Some copy) None first count b apart low high = refl
run-apart size (Some copy) (Some chunk) first count b apart low high = grind (arith, nat_tests)

-- blocks of one region
pub same-region : (size first i : ℕ) → first % size + i < size → ((first + i) / size ≡ first / size) × ((first + i) % size ≡ first % size + i)
same-region size first i short =
    let whole : first / size * size + first % size ≡ first = div-add-mod' first size in
    let e : first + i ≡ first / size * size + (first % size + i) = omega (arith, whole) in (
      ap (λ (n : ℕ). n / size) e ∙ div-mul-add (first / size) size (first % size + i) short,
      ap (λ (n : ℕ). n % size) e ∙ mod-mul-add (first / size) size (first % size + i) short,
    )

both_off : (a b c : Bool) → ((a && false) && b) ≡ ((a && false) && c)
both_off true b c = refl
both_off false b c = refl

-- a copy has passed all blocks of the run or none
passed-alike : (leg size first i : ℕ) (copy : Option CopyPlace) (chunk : Option Chunk) (count : ℕ) → meets_copy size copy chunk first count ≡ false → i < count → first % size + count ≤ size
    → has_copied leg (first / size) (first % size + i) copy ≡ has_copied leg (first / size) (first % size) copy
passed-alike leg size first i None chunk count apart below short = refl
passed-alike leg size first i (Some copy) chunk count apart below short =
    elim (copy.region == first / size) as (λ b. (copy.region == first / size) ≡ b → (((copy.leg == leg) && b) && nat_lt (first % size + i) copy.cursor) ≡ (((copy.leg == leg) && b) && nat_lt (first % size) copy.cursor)) [
      | true ↦ λ is.
          let region : copy.region ≡ first / size = same copy.region (first / size) is in
          let whole : first / size * size + first % size ≡ first = div-add-mod' first size in
          let start : copy.region * size + copy.cursor + first % size ≡ first + copy.cursor = ap (λ (r : ℕ). r * size + copy.cursor + first % size) region ∙ omega (arith, whole) in
          let alike : nat_lt (first % size + i) copy.cursor ≡ nat_lt (first % size) copy.cursor = grind (arith, nat_tests) in
          ap (λ (b : Bool). ((copy.leg == leg) && true) && b) alike
      | false ↦ λ is. both_off (copy.leg == leg) (nat_lt (first % size + i) copy.cursor) (nat_lt (first % size) copy.cursor)
    ] refl

pub map-alike : (f g : ℕ → Bool) (xs : List ℕ) → ((x : ℕ) → f x ≡ g x) → map f xs ≡ map g xs
map-alike f g [] alike = refl
map-alike f g (x ∷ xs) alike = ap (λ (b : Bool). b ∷ map f xs) (alike x) ∙ ap (λ (bs : List Bool). g x ∷ bs) (map-alike f g xs alike)

-- so its blocks have the same legs that are current
pub run-targets : (t : RegionTable) (chunk : Option Chunk) (first count i : ℕ) → meets_copy t.region t.copy chunk first count ≡ false → i < count → first % t.region + count ≤ t.region
    → targets (first + i) t ≡ targets first t
run-targets t chunk first count i apart below short =
    let there = same-region t.region first i (omega (arith, below, short)) in
    map-alike (λ leg. is_current leg (first + i) t) (λ leg. is_current leg first t) (0 ∷ 1 ∷ 2 ∷ 3 ∷ 4 ∷ 5 ∷ 6 ∷ 7 ∷ []) (λ leg.
    ap (λ (n : ℕ). has_region leg n t || has_copied leg n ((first + i) % t.region) t.copy) there.0
    ∙ ap (λ (n : ℕ). has_region leg (first / t.region) t || has_copied leg (first / t.region) n t.copy) there.1
    ∙ ap (λ (b : Bool). has_region leg (first / t.region) t || b) (passed-alike leg t.region first i t.copy chunk count apart below short))
