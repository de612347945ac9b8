-- What holds of every region table.
use Rattle.std.specs.Prelude.{◌≡◌, ℕ, ◌+◌, ◌*◌, ◌^◌, ◌<◌, ◌≤◌, IsFalse, IsTrue, Option, None, Some}
use Rattle.std.specs.Prelude.{List, length, All}
use Rattle.nm_regions.specs.declared.copy_place.CopyPlace.{CopyPlace}
use Rattle.nm_regions.specs.LegFlags.{LegRegions, is_behind}
use Rattle.nm_regions.specs.Table.{RegionTable, is_out, leg_at, length_of}

-- each leg has so many regions
abbrev pub AllHave : ℕ → List LegRegions → Type 0
AllHave regions legs = All (λ leg. length leg.behind ≡ regions) legs

-- the copy is of a leg that is not out, in a region where it is behind, and within that region
pub record IsCopyOf (copy : CopyPlace) (t : RegionTable) : Type 0 where
  pub leg : copy.leg < length t.legs
  pub attached : IsFalse (is_out copy.leg t)
  pub behind : IsTrue (is_behind copy.region (leg_at copy.leg t))
  pub within : copy.cursor ≤ length_of copy.region t

-- where a copy is open, it is one of this table
abbrev pub IsOpenCopy : Option CopyPlace → RegionTable → Type 0
IsOpenCopy None t = Unit {0}
IsOpenCopy (Some copy) t = IsCopyOf copy t

-- the sizes that a stripe may have
pub record AreSizes (blocks region legs : ℕ) : Type 0 where
  pub some_blocks : 0 < blocks
  pub most_blocks : blocks ≤ 2 ^ 31
  pub some_region : 0 < region
  pub most_region : region ≤ 65536
  pub some_legs : 0 < legs
  pub most_legs : legs ≤ 8

-- the regions cover the blocks, each leg has all of them, and an open copy is one of this table
pub record IsRegionTable (t : RegionTable) : Type 0 where
  pub sizes : AreSizes t.blocks t.region (length t.legs)
  pub covered : t.blocks ≤ length t.writes * t.region
  pub no_more : length t.writes * t.region < t.blocks + t.region
  pub flags : AllHave (length t.writes) t.legs
  pub copy : IsOpenCopy t.copy t
