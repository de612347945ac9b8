-- How many blocks are left to copy to a leg, as the code counts them.
use Rattle.std.proofs.Common.{◌≡◌, ℕ, zero, suc, false, ◌+◌, ◌-◌, ◌*◌, ◌<◌, ◌≤◌, cond, length, get_or, sym, ap, ◌∙◌, arith, suc-mul}
use Rattle.std.proofs.lemmas.List.{get_or_read}
use Rattle.nm_regions.specs.LegFlags.{LegRegions, no_leg, is_behind}
use Rattle.nm_regions.specs.Links.{behind_count}
use Rattle.nm_regions.specs.Table.{RegionTable, leg_at, blocks_behind}
use Rattle.nm_regions.specs.Sound.{IsRegionTable}
use Rattle.nm_regions.proofs.Sizes.{counted-whole}

-- the blocks that the regions behind would have if all were whole, and those that the last lacks
pub record AreParts (leg whole lacking : ℕ) (t : RegionTable) : Type 0 where
  pub lacks : lacking ≤ whole
  pub rest : whole - lacking ≡ blocks_behind t.region t.blocks (leg_at leg t).behind

some-region : (regions region blocks : ℕ) → 0 < blocks → blocks ≤ regions * region → 0 < regions
some-region zero region blocks some covered = absurd (omega arith)
some-region (suc regions) region blocks some covered = omega arith

-- the table has a last region
pub last-of : (t : RegionTable) → IsRegionTable t → 0 < length t.writes
last-of t h = some-region (length t.writes) t.region t.blocks h.sizes.some_blocks h.covered

whole-is : (leg last : ℕ) (t : RegionTable) → IsRegionTable t → leg < length t.legs
    → suc last ≡ length t.writes
    → blocks_behind t.region t.blocks (leg_at leg t).behind
    + cond (is_behind last (leg_at leg t)) (length t.writes * t.region - t.blocks) 0
    ≡ behind_count (leg_at leg t).behind * t.region
whole-is leg last t h within is =
    let more : suc last * t.region < t.blocks + t.region = rw is h.no_more in
    rw (← is) (counted-whole t.region t.blocks (leg_at leg t).behind last false
    (is ∙ sym (h.flags leg no_leg within)) (rw is h.covered)
    (omega (arith, more, suc-mul last t.region)))

-- how the code counts the blocks behind
pub parts-are : (leg count lacking : ℕ) (flags : LegRegions) (t : RegionTable)
    → IsRegionTable t → leg < length t.legs → flags ≡ get_or t.legs leg flags
    → count ≡ behind_count flags.behind
    → lacking ≡ cond (is_behind (length t.writes - 1) flags)
    (length t.writes * t.region - t.blocks) 0
    → AreParts leg (count * t.region) lacking t
parts-are leg count lacking flags t h within read counted lacks =
    let some = last-of t h in
    let same : flags ≡ leg_at leg t = get_or_read t.legs leg flags within read no_leg in
    let last = length t.writes - 1 in
    let whole = whole-is leg last t h within (omega (arith, some)) in
    let count-is : count * t.region ≡ behind_count (leg_at leg t).behind * t.region =
    ap (λ n. n * t.region) (counted ∙ ap (λ (l : LegRegions). behind_count l.behind) same) in
    let lacks-is : lacking ≡ cond (is_behind last (leg_at leg t))
    (length t.writes * t.region - t.blocks) 0 = lacks
    ∙ ap (λ (l : LegRegions). cond (is_behind last l) (length t.writes * t.region - t.blocks) 0)
    same in
    record {
      lacks = omega (arith, whole, count-is, lacks-is);
      rest = omega (arith, whole, count-is, lacks-is);
    }
