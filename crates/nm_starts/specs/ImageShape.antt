-- The shape of the mirror that an image is of.
use Rattle.std.specs.Prelude.{◌≡◌, ◌<◌}
use Rattle.nm_geometry.specs.Geometry.{Geometry}
use Rattle.nm_superblock.specs.declared.superblock.Superblock.{Superblock}

-- a mirror of this shape has its blocks, its regions and its stripes, and the image has spans
pub record IsShapeOf (image : Superblock) (shape : Geometry) : Type 0 where
  pub blocks : image.blocks ≡ shape.blocks
  pub region : image.region_blocks ≡ shape.region
  pub stripes : image.stripes ≡ shape.stripes
  pub spans : 0 < image.span_regions
