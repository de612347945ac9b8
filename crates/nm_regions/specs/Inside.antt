-- The table that a `Regions` stands for.
use Rattle.nm_regions.specs.declared.regions.Regions.TheInside.{Inside}
use Rattle.nm_regions.specs.Table.{RegionTable}

-- the fields, as a table
abbrev pub table_of : Inside → RegionTable
table_of r = record {
  blocks = r.blocks;
  region = r.region;
  legs = r.legs.items;
  writes = r.writes.items;
  copy = r.copy;
}
