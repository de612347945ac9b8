-- Pieces of one region.
use Rattle.std.specs.Prelude.{◌≡◌, ◌+◌, ◌*◌, ◌%◌, ◌<◌, ◌≤◌}
use Rattle.nm_geometry.specs.Geometry.{Geometry}
use Rattle.nm_lanes.specs.declared.region_pieces.RegionPieces.{RegionPieces}
use Rattle.nm_lanes.specs.PieceRanges.{block_of}

-- there are some pieces, and their blocks lie in the region of this number, which is the stripe's
pub record IsRegionPieces (shape : Geometry) (region : RegionPieces) : Type 0 where
  pub some : 0 < region.pieces.count
  pub stripe_is : region.number % shape.stripes ≡ region.stripe
  pub begins : region.number * shape.region ≤ block_of region.pieces
  pub upto :
      block_of region.pieces + region.pieces.count ≤ (region.number + 1) * shape.region
