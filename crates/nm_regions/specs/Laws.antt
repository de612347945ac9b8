-- Laws of the region table: what is left to copy to a leg, and where a lost leg is behind.
use Rattle.std.specs.Prelude.{◌≡◌, ℕ, ◌+◌, ◌<◌, ◌≤◌, ◌==◌, ◌||◌, not, IsTrue, IsFalse, None, Some}
use Rattle.std.specs.Prelude.{length}
use Rattle.nm_regions.specs.declared.copy_place.CopyPlace.{CopyPlace}
use Rattle.nm_regions.specs.LegFlags.{is_behind}
use Rattle.nm_regions.specs.Table.{RegionTable, leg_at, is_out, is_quiet, left, copy_rest}
use Rattle.nm_regions.specs.Changes.{begun_run, gone_out, attached, replaced, copy_opened}
use Rattle.nm_regions.specs.Changes.{advanced, region_finished}
use Rattle.nm_regions.specs.Sound.{IsRegionTable}

-- what is left of a leg falls by one for each block that its copy advances
abbrev pub AdvanceLowersLeft : Type 0
AdvanceLowersLeft =
    (t : RegionTable) (copy : CopyPlace) (blocks : ℕ) → IsRegionTable t → t.copy ≡ Some copy
    → blocks ≤ copy_rest t
    → left copy.leg (advanced blocks t) + blocks ≡ left copy.leg t

-- what is left of any leg stays as a copy is opened
abbrev pub OpenKeepsLeft : Type 0
OpenKeepsLeft =
    (t : RegionTable) (leg copied_leg region : ℕ) → t.copy ≡ None
    → left leg (copy_opened copied_leg region t) ≡ left leg t

-- what is left of a leg stays as its copied region is finished
abbrev pub FinishKeepsLeft : Type 0
FinishKeepsLeft =
    (t : RegionTable) (copy : CopyPlace) → IsRegionTable t → t.copy ≡ Some copy
    → copy_rest t ≡ 0 → left copy.leg (region_finished t) ≡ left copy.leg t

-- what is left of a leg that is not out stays as a run begins
abbrev pub BeginKeepsLeft : Type 0
BeginKeepsLeft =
    (t : RegionTable) (leg block count : ℕ) → leg < length t.legs → IsFalse (is_out leg t)
    → left leg (begun_run block count t) ≡ left leg t

-- a leg that goes out is behind where it was, and where a write is under way
abbrev pub GoOutMarksDirty : Type 0
GoOutMarksDirty =
    (t : RegionTable) (leg region : ℕ) → IsRegionTable t → leg < length t.legs
    → region < length t.writes → is_behind region (leg_at leg (gone_out leg t))
    ≡ (is_behind region (leg_at leg t) || not (is_quiet region t))

-- what is left of a leg stays as another one goes out
abbrev pub GoOutKeepsLeft : Type 0
GoOutKeepsLeft =
    (t : RegionTable) (leg other : ℕ) → IsFalse (other == leg)
    → left other (gone_out leg t) ≡ left other t

-- what is left of a leg stays as another one is replaced
abbrev pub ReplaceKeepsLeft : Type 0
ReplaceKeepsLeft =
    (t : RegionTable) (leg other : ℕ) → IsFalse (other == leg)
    → left other (replaced leg t) ≡ left other t

-- what is left of any leg stays as a leg is attached
abbrev pub AttachKeepsLeft : Type 0
AttachKeepsLeft =
    (t : RegionTable) (leg other : ℕ) → leg < length t.legs
    → left other (attached leg t) ≡ left other t

-- all blocks are left of a leg that is replaced
abbrev pub ReplaceLeavesAll : Type 0
ReplaceLeavesAll =
    (t : RegionTable) (leg : ℕ) → IsRegionTable t → leg < length t.legs → IsTrue (is_out leg t)
    → left leg (replaced leg t) ≡ t.blocks
