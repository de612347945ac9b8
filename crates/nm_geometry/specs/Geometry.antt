-- How an export's blocks are shared out among stripes.
use Rattle.std.specs.Prelude.{ℕ, zero, suc, ◌+◌, ◌-◌, ◌*◌, ◌/◌, ◌%◌, ◌≤◌, ◌^◌, min}

-- the numbers of blocks in the export, in a region and in a chunk, of stripes, of legs, and of the
-- entries that a stripe's history keeps at most
pub record Geometry : Type 0 where
  pub blocks : ℕ
  pub region : ℕ
  pub chunk : ℕ
  pub stripes : ℕ
  pub legs : ℕ
  pub history : ℕ

-- these numbers, together
abbrev pub geometry : ℕ → ℕ → ℕ → ℕ → ℕ → ℕ → Geometry
geometry blocks region chunk stripes legs history = record {
  blocks = blocks;
  region = region;
  chunk = chunk;
  stripes = stripes;
  legs = legs;
  history = history;
}

-- how many regions so many blocks have: only the last may be shorter
abbrev pub regions_for : ℕ → ℕ → ℕ
regions_for region blocks = (blocks + region - 1) / region

-- how many regions the export has
abbrev pub regions : Geometry → ℕ
regions shape = regions_for shape.region shape.blocks

-- the numbers are within their bounds, and there are no more stripes than regions
pub record IsGeometry (shape : Geometry) : Type 0 where
  pub some_blocks : 1 ≤ shape.blocks
  pub most_blocks : shape.blocks ≤ 2 ^ 31
  pub some_region : 1 ≤ shape.region
  pub most_region : shape.region ≤ 65536
  pub some_chunk : 1 ≤ shape.chunk
  pub most_chunk : shape.chunk ≤ shape.region
  pub some_stripes : 1 ≤ shape.stripes
  pub most_stripes : shape.stripes ≤ 64
  pub in_regions : shape.stripes ≤ regions shape
  pub some_legs : 1 ≤ shape.legs
  pub most_legs : shape.legs ≤ 8
  pub most_history : shape.history ≤ 1024

-- the region that a block lies in
abbrev pub region_of : ℕ → Geometry → ℕ
region_of block shape = block / shape.region

-- the stripe that a block lies in: the regions go to the stripes in turn
abbrev pub stripe_of : ℕ → Geometry → ℕ
stripe_of block shape = region_of block shape % shape.stripes

-- the number of a block's region in its stripe
abbrev pub region_in_stripe : ℕ → Geometry → ℕ
region_in_stripe block shape = region_of block shape / shape.stripes

-- the number of a block in its stripe
abbrev pub block_in_stripe : ℕ → Geometry → ℕ
block_in_stripe block shape =
    region_in_stripe block shape * shape.region + block % shape.region

-- the export's region that is this region of this stripe
abbrev pub export_region : ℕ → ℕ → Geometry → ℕ
export_region stripe region shape = region * shape.stripes + stripe

-- the export's block that is this block of this stripe
abbrev pub export_block : ℕ → ℕ → Geometry → ℕ
export_block stripe block shape =
    export_region stripe (block / shape.region) shape * shape.region + block % shape.region

-- how many blocks a row has: one region of each stripe
abbrev pub row : Geometry → ℕ
row shape = shape.region * shape.stripes

-- how many blocks a stripe has: a region of each whole row, and what the last row has of its region
abbrev pub stripe_blocks : ℕ → Geometry → ℕ
stripe_blocks stripe shape =
    shape.blocks / row shape * shape.region
    + min (shape.blocks % row shape - stripe * shape.region) shape.region

-- how many regions a stripe has
abbrev pub stripe_regions : ℕ → Geometry → ℕ
stripe_regions stripe shape = regions_for shape.region (stripe_blocks stripe shape)

-- how many blocks so many stripes have together, from the first on
abbrev pub blocks_of_stripes : ℕ → Geometry → ℕ
blocks_of_stripes zero shape = 0
blocks_of_stripes (suc stripes) shape =
    blocks_of_stripes stripes shape + stripe_blocks stripes shape
