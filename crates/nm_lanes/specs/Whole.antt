-- The array of a mirror, put together from those of its stripes.
use Rattle.std.specs.Prelude.{◌≡◌, ℕ, ◌<◌, length, slice_get}
use Rattle.nm_geometry.specs.Geometry.{Geometry, stripe_of, block_in_stripe, stripe_blocks}
use Rattle.nm_replay.specs.Array.{Array}

-- each stripe's array is as long as the shape says
abbrev pub AreAsLong : Geometry → (ℕ → Array) → Type 0
AreAsLong shape arrays =
    (stripe : ℕ) → stripe < shape.stripes → length (arrays stripe) ≡ stripe_blocks stripe shape

-- an array of the mirror is put together from its stripes' arrays: each block of the export is the
-- block of its stripe that it lies in
pub record IsWhole (shape : Geometry) (arrays : ℕ → Array) (whole : Array) : Type 0 where
  pub blocks : length whole ≡ shape.blocks
  pub lengths : AreAsLong shape arrays
  pub parts : (block : ℕ) → block < shape.blocks
      → slice_get whole block
      ≡ slice_get (arrays (stripe_of block shape)) (block_in_stripe block shape)

-- some array is put together from the stripes' arrays
pub record HasWhole (shape : Geometry) (arrays : ℕ → Array) : Type 0 where
  pub whole : Array
  pub is_whole : IsWhole shape arrays whole
