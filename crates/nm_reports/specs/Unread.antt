-- Where in the export a region of a stripe lies.
use Rattle.std.specs.Prelude.{ℕ, ◌*◌, ◌-◌, min}
use Rattle.nm_geometry.specs.declared.byte_range.ByteRange.{ByteRange}
use Rattle.nm_geometry.specs.Geometry.{Geometry, export_block, stripe_blocks}

-- how many blocks a stripe has before its region of this number
abbrev pub blocks_before : (region : ℕ) → Geometry → ℕ
blocks_before region shape = region * shape.region

-- the export's bytes of this region of this stripe: the last region may be shorter
abbrev pub region_bytes : (stripe region : ℕ) → Geometry → ByteRange
region_bytes stripe region shape = record {
  offset = 512 * export_block stripe (blocks_before region shape) shape;
  length = 512 * min shape.region (stripe_blocks stripe shape - blocks_before region shape);
}
