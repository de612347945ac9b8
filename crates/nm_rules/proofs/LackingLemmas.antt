-- A block with a mark makes its region's flag true: where no flag is set, no block is marked.
use Rattle.std.proofs.Common.{◌≡◌, ℕ, zero, suc, ◌+◌, ◌*◌, ◌/◌, ◌%◌, ◌<◌, Bool, true, false, ◌||◌, get_or, List, [], ◌∷◌, length, take, drop, refl, sym, ap, ◌∙◌, arith}
use Rattle.std.proofs.lemmas.Nat.{div-add-mod'}
use Rattle.std.proofs.Math.Nat.{lt-div-mul-add}
use Rattle.std.specs.List.{list_any}
use Rattle.nm_regions.specs.Table.{RegionTable, length_of}
use Rattle.nm_rules.specs.Attach.{either, lacking_from, may_lack}
use Rattle.nm_rules.specs.Reopening.{Marks}
use Rattle.nm_rules.specs.Unsynced.{is_unsynced}

neither : (a b : Bool) → (a || b) ≡ false → (a ≡ false) × (b ≡ false)
neither true b is = cc
neither false b is = (refl, is)

-- none of the first so many flags is set
none-taken : (count i : ℕ) (flags : List Bool) → list_any (λ marked. marked) (take count flags) ≡ false → i < count → get_or flags i false ≡ false
none-taken zero i flags none inside = absurd (omega (arith, inside))
none-taken (suc count) i [] none inside = refl
none-taken (suc count) zero (b ∷ flags) none inside = (neither b (list_any (λ marked. marked) (take count flags)) none).0
none-taken (suc count) (suc i) (b ∷ flags) none inside = none-taken count i flags (neither b (list_any (λ marked. marked) (take count flags)) none).1 (omega (arith, inside))

dropped : (at i : ℕ) (flags : List Bool) → get_or (drop at flags) i false ≡ get_or flags (at + i) false
dropped zero i flags = ap (λ (k : ℕ). get_or flags k false) (let e : i ≡ 0 + i = omega arith in e)
dropped (suc at) i [] = refl
dropped (suc at) i (b ∷ flags) = dropped at i flags ∙ ap (λ (k : ℕ). get_or (b ∷ flags) k false) (let e : suc (at + i) ≡ suc at + i = omega arith in e)

-- a block of a region of which nothing is unsynced has no mark
pub no-mark : (flags : List Bool) (t : RegionTable) (block : ℕ) → 0 < t.region → block < t.blocks → is_unsynced flags t (block / t.region) ≡ false → get_or flags block false ≡ false
no-mark flags t block some inside none =
    let whole : block / t.region * t.region + block % t.region ≡ block = div-add-mod' block t.region in
    let short : block < block / t.region * t.region + t.region = lt-div-mul-add {b = t.region} some in
    let within : block % t.region < length_of (block / t.region) t = omega (arith, whole, short, inside) in
    ap (λ (k : ℕ). get_or flags k false) (sym whole)
    ∙ sym (dropped (block / t.region * t.region) (block % t.region) flags)
    ∙ none-taken (length_of (block / t.region) t) (block % t.region) (drop (block / t.region * t.region) flags) none within

-- the flags of the regions that a leg may lack, one by one
pub lacking-at : (marks : Marks) (flags : List Bool) (t : RegionTable) (count from i : ℕ) → i < count → get_or (lacking_from marks flags t count from) i false ≡ may_lack marks flags t (from + i)
lacking-at marks flags t zero from i inside = absurd (omega (arith, inside))
lacking-at marks flags t (suc count) from zero inside = ap (λ (r : ℕ). may_lack marks flags t r) (let e : from ≡ from + 0 = omega arith in e)
lacking-at marks flags t (suc count) from (suc i) inside =
    lacking-at marks flags t count (from + 1) i (omega (arith, inside)) ∙ ap (λ (r : ℕ). may_lack marks flags t r) (let e : from + 1 + i ≡ from + suc i = omega arith in e)

or-second : (a b : Bool) → b ≡ true → (a || b) ≡ true
or-second true b is = refl
or-second false b is = is

-- what the other list sets is set
pub either-other : (flags more : List Bool) (i : ℕ) → i < length flags → get_or more i false ≡ true → get_or (either flags more) i false ≡ true
either-other [] more i inside is = absurd (omega (arith, inside))
either-other (b ∷ flags) [] i inside is = cc
either-other (b ∷ flags) (m ∷ more) zero inside is = or-second b m is
either-other (b ∷ flags) (m ∷ more) (suc i) inside is = either-other flags more i (omega (arith, inside)) is
