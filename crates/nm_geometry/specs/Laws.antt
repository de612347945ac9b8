-- Laws of the geometry: there and back, and each block in one stripe.
use Rattle.std.specs.Prelude.{◌≡◌, ℕ, ◌<◌, ◌↔◌}
use Rattle.nm_geometry.specs.Geometry.{Geometry, IsGeometry, regions, stripe_of, block_in_stripe}
use Rattle.nm_geometry.specs.Geometry.{export_region, export_block, stripe_blocks}
use Rattle.nm_geometry.specs.Geometry.{stripe_regions, blocks_of_stripes}

-- a block lies in a stripe that there is, as a block of it, and that one is it in the export
pub record ComesBack (shape : Geometry) (block : ℕ) : Type 0 where
  pub stripe : stripe_of block shape < shape.stripes
  pub inside : block_in_stripe block shape < stripe_blocks (stripe_of block shape) shape
  pub back : export_block (stripe_of block shape) (block_in_stripe block shape) shape ≡ block

-- so does each block of the export
abbrev pub BlocksComeBack : Type 0
BlocksComeBack =
    (shape : Geometry) (block : ℕ) → IsGeometry shape → block < shape.blocks
    → ComesBack shape block

-- the export's block of a stripe's block lies in that stripe, as that block
pub record StripeComesBack (shape : Geometry) (stripe block : ℕ) : Type 0 where
  pub stripe_back : stripe_of (export_block stripe block shape) shape ≡ stripe
  pub block_back : block_in_stripe (export_block stripe block shape) shape ≡ block

-- so it is for each block of each stripe
abbrev pub StripeBlocksComeBack : Type 0
StripeBlocksComeBack =
    (shape : Geometry) (stripe block : ℕ) → IsGeometry shape → stripe < shape.stripes
    → StripeComesBack shape stripe block

-- a stripe has exactly the blocks whose export's block lies in the export
abbrev pub StripesLieInside : Type 0
StripesLieInside =
    (shape : Geometry) (stripe block : ℕ) → IsGeometry shape → stripe < shape.stripes
    → (block < stripe_blocks stripe shape) ↔ (export_block stripe block shape < shape.blocks)

-- a stripe has exactly the regions whose export's region is one of the export's
abbrev pub StripeRegionsLieInside : Type 0
StripeRegionsLieInside =
    (shape : Geometry) (stripe region : ℕ) → IsGeometry shape → stripe < shape.stripes
    → (region < stripe_regions stripe shape) ↔ (export_region stripe region shape < regions shape)

-- the stripes have as many blocks together as the export
abbrev pub StripesAddUp : Type 0
StripesAddUp =
    (shape : Geometry) → IsGeometry shape
    → blocks_of_stripes shape.stripes shape ≡ shape.blocks

-- each stripe has a block
abbrev pub EachStripeHasBlocks : Type 0
EachStripeHasBlocks =
    (shape : Geometry) (stripe : ℕ) → IsGeometry shape → stripe < shape.stripes
    → 0 < stripe_blocks stripe shape

-- of two blocks of one stripe, the lower in the export is the lower in the stripe
abbrev pub BlocksRiseInStripes : Type 0
BlocksRiseInStripes =
    (shape : Geometry) (low high : ℕ) → IsGeometry shape
    → stripe_of low shape ≡ stripe_of high shape → low < high
    → block_in_stripe low shape < block_in_stripe high shape
