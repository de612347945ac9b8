-- The regions of one stripe: what is written in each, what each leg is behind in, what is copied.
use Rattle.std.specs.Prelude.{ℕ, ◌+◌, ◌-◌, ◌*◌, ◌/◌, ◌%◌, Bool, false, not, ◌&&◌, ◌||◌}
use Rattle.std.specs.Prelude.{nat_lt, ◌==◌, if◌then◌else◌, min, Option, None, Some}
use Rattle.std.specs.Prelude.{List, [], ◌∷◌, map, slice_index_or}
use Rattle.nm_regions.specs.declared.copy_place.CopyPlace.{CopyPlace}
use Rattle.nm_regions.specs.declared.region_state.RegionState.{RegionState}
use Rattle.nm_regions.specs.declared.region_state.RegionState.TheVariants.{Clean, Dirty, Recovering}
use Rattle.nm_regions.specs.LegFlags as leg_flags
use Rattle.nm_regions.specs.LegFlags.{LegRegions, no_leg, is_behind}

-- how many blocks the stripe has, and a region; the legs; for each region how many writes under
-- way lie in it; and the open copy
pub record RegionTable : Type 0 where
  pub blocks : ℕ
  pub region : ℕ
  pub legs : List LegRegions
  pub writes : List ℕ
  pub copy : Option CopyPlace

-- how many regions so many blocks have: only the last may be shorter
abbrev pub regions_of : ℕ → ℕ → ℕ
regions_of blocks region = (blocks + region - 1) / region

-- the region that the block lies in
abbrev pub region_of : ℕ → RegionTable → ℕ
region_of block t = block / t.region

-- the block's place in its region
abbrev pub place_of : ℕ → RegionTable → ℕ
place_of block t = block % t.region

-- how many blocks this region has
abbrev pub length_of : ℕ → RegionTable → ℕ
length_of region t = min t.region (t.blocks - region * t.region)

-- how many writes under way lie in this region
abbrev pub writes_in : ℕ → RegionTable → ℕ
writes_in region t = slice_index_or t.writes region 0

-- whether no write under way lies in this region
abbrev pub is_quiet : ℕ → RegionTable → Bool
is_quiet region t = writes_in region t == 0

-- whether the copy is in this region
abbrev pub copies : ℕ → Option CopyPlace → Bool
copies region None = false
copies region (Some copy) = copy.region == region

-- a region's state: recovering comes before dirty
abbrev pub state : ℕ → RegionTable → RegionState
state region t =
    if copies region t.copy then Recovering else (if is_quiet region t then Clean else Dirty)

-- the regions of this leg
abbrev pub leg_at : ℕ → RegionTable → LegRegions
leg_at leg t = slice_index_or t.legs leg no_leg

-- whether the leg is out
abbrev pub is_out : ℕ → RegionTable → Bool
is_out leg t = (leg_at leg t).out

-- whether the leg is not out, and not behind in this region
abbrev pub has_region : ℕ → ℕ → RegionTable → Bool
has_region leg region t = not (is_out leg t) && not (is_behind region (leg_at leg t))

-- whether the copy is of this leg and region, and has passed this place in it
abbrev pub has_copied : ℕ → ℕ → ℕ → Option CopyPlace → Bool
has_copied leg region place None = false
has_copied leg region place (Some copy) =
    (copy.leg == leg) && (copy.region == region) && nat_lt place copy.cursor

-- whether the leg is current at this place of this region
abbrev pub is_current_at : ℕ → ℕ → ℕ → RegionTable → Bool
is_current_at leg region place t = has_region leg region t || has_copied leg region place t.copy

-- whether the leg is current at the block: it holds what the stripe holds there
abbrev pub is_current : ℕ → ℕ → RegionTable → Bool
is_current leg block t = is_current_at leg (region_of block t) (place_of block t) t

-- for each of eight legs, whether it is current at the block
abbrev pub targets : ℕ → RegionTable → List Bool
targets block t =
    map (λ leg. is_current leg block t) (0 ∷ 1 ∷ 2 ∷ 3 ∷ 4 ∷ 5 ∷ 6 ∷ 7 ∷ [])

-- how many blocks lie in the regions behind, where so many blocks lie in all of them
abbrev pub blocks_behind : ℕ → ℕ → List Bool → ℕ
blocks_behind region blocks [] = 0
blocks_behind region blocks (behind ∷ flags) =
    (if behind then min region blocks else 0) + blocks_behind region (blocks - region) flags

-- how many blocks of its region the copy of this leg has copied
abbrev pub copied : ℕ → Option CopyPlace → ℕ
copied leg None = 0
copied leg (Some copy) = if copy.leg == leg then copy.cursor else 0

-- how many blocks are left to copy to this leg
abbrev pub left : ℕ → RegionTable → ℕ
left leg t = blocks_behind t.region t.blocks (leg_at leg t).behind - copied leg t.copy

-- the lowest region that the leg is behind in, of those not below this one
abbrev pub next_behind : ℕ → ℕ → RegionTable → Option ℕ
next_behind leg from t = leg_flags.next_behind from (leg_at leg t)

-- whether the leg is behind in some region
abbrev pub has_behind : ℕ → RegionTable → Bool
has_behind leg t = leg_flags.has_behind (leg_at leg t)

-- how many blocks of its region this copy has still to copy
abbrev pub rest_of : Option CopyPlace → RegionTable → ℕ
rest_of None t = 0
rest_of (Some copy) t = length_of copy.region t - copy.cursor

-- how many blocks of its region the open copy has still to copy
abbrev pub copy_rest : RegionTable → ℕ
copy_rest t = rest_of t.copy t
