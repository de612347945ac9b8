-- The writes under way, counted region by region.
use Rattle.std.specs.Prelude.{ℕ, ◌+◌, ◌%◌, ◌≤◌, List, [], ◌∷◌}
use Rattle.nm_fanout.specs.declared.write_record.Record.{Record}
use Rattle.nm_fanout.specs.RecordData.{blocks_in}
use Rattle.nm_regions.specs.Table.{RegionTable, regions_of}
use Rattle.nm_rules.specs.State.{writes_from}

-- each of these runs lies in so many blocks, inside one region of so many
abbrev pub LieInRegions : ℕ → ℕ → List Record → Type 0
LieInRegions blocks size [] = Unit {0}
LieInRegions blocks size (r ∷ rs) =
    (r.block + blocks_in r.data ≤ blocks) × (r.block % size + blocks_in r.data ≤ size)
    × LieInRegions blocks size rs

-- the table, where its counts are those of these records
abbrev pub counting : List Record → RegionTable → RegionTable
counting records t = record t {
  writes = writes_from t.region (regions_of t.blocks t.region) 0 records;
}
