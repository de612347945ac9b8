-- The changes of the region table, each as the table that it leaves.
use Rattle.std.specs.Prelude.{ℕ, ◌+◌, ◌-◌, Bool, ◌==◌, if◌then◌else◌, Option, None, Some}
use Rattle.std.specs.Prelude.{List, map, replicate, slice_set}
use Rattle.nm_regions.specs.declared.copy_place.CopyPlace.{CopyPlace}
use Rattle.nm_regions.specs.LegFlags as leg_flags
use Rattle.nm_regions.specs.LegFlags.{LegRegions, opened_leg, marked_if_out, cleared}
use Rattle.nm_regions.specs.Table.{RegionTable, regions_of, region_of, writes_in, leg_at}

-- the table of so many blocks as it opens: legs not in sync join with all regions behind
abbrev pub opened : ℕ → ℕ → List Bool → RegionTable
opened blocks region in_sync = record {
  blocks = blocks;
  region = region;
  legs = map (opened_leg (regions_of blocks region)) in_sync;
  writes = replicate (regions_of blocks region) 0;
  copy = None;
}

-- the table with this leg changed by f
abbrev pub with_leg : (LegRegions → LegRegions) → ℕ → RegionTable → RegionTable
with_leg f leg t = record t { legs = slice_set t.legs leg (f (leg_at leg t)) }

-- so many more writes are under way in the block's region, which falls behind on each leg that is
-- out
abbrev pub begun_run : ℕ → ℕ → RegionTable → RegionTable
begun_run block count t =
    let region = region_of block t in record t {
      legs = map (marked_if_out region) t.legs;
      writes = slice_set t.writes region (writes_in region t + count);
    }

-- so many writes fewer are under way in the block's region
abbrev pub finished_run : ℕ → ℕ → RegionTable → RegionTable
finished_run block count t =
    let region = region_of block t in
    record t { writes = slice_set t.writes region (writes_in region t - count) }

-- the copy, unless it is of this leg
abbrev pub copy_but_of : ℕ → Option CopyPlace → Option CopyPlace
copy_but_of leg None = None
copy_but_of leg (Some copy) = if copy.leg == leg then None else Some copy

-- the leg is out, behind also in each region with a write under way; an open copy of it is dropped
abbrev pub gone_out : ℕ → RegionTable → RegionTable
gone_out leg t =
    record (with_leg (leg_flags.gone_out t.writes) leg t) { copy = copy_but_of leg t.copy }

-- all regions are behind for the leg
abbrev pub all_marked : ℕ → RegionTable → RegionTable
all_marked leg t = with_leg leg_flags.all_marked leg t

-- the region is behind for the leg
abbrev pub marked : ℕ → ℕ → RegionTable → RegionTable
marked leg region t = with_leg (leg_flags.marked region) leg t

-- every leg is set aside until it is compared
abbrev pub all_set_aside : RegionTable → RegionTable
all_set_aside t = record t { legs = map leg_flags.set_aside t.legs }

-- the leg is not out any more, and its regions are as they were
abbrev pub attached : ℕ → RegionTable → RegionTable
attached leg t = with_leg leg_flags.attached leg t

-- the leg that was out is another one now: it joins with all regions behind
abbrev pub replaced : ℕ → RegionTable → RegionTable
replaced leg t = attached leg (all_marked leg t)

-- a copy of this leg's region is open, and nothing of it is copied
abbrev pub copy_opened : ℕ → ℕ → RegionTable → RegionTable
copy_opened leg region t =
    record t { copy = Some (record { leg = leg; region = region; cursor = 0 }) }

-- the copy once so many more blocks are copied
abbrev pub moved : ℕ → Option CopyPlace → Option CopyPlace
moved blocks None = None
moved blocks (Some copy) = Some (record copy { cursor = copy.cursor + blocks })

-- so many more blocks of the open copy's region are copied
abbrev pub advanced : ℕ → RegionTable → RegionTable
advanced blocks t = record t { copy = moved blocks t.copy }

-- the table once the leg of this copy is no longer behind in its region
abbrev pub cleared_for : Option CopyPlace → RegionTable → RegionTable
cleared_for None t = t
cleared_for (Some copy) t = with_leg (cleared copy.region) copy.leg t

-- the copy has ended, and its leg is no longer behind in its region
abbrev pub region_finished : RegionTable → RegionTable
region_finished t = record (cleared_for t.copy t) { copy = None }
