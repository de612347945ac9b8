-- What one user of a shared array in memory has of it.
use Rattle.std.specs.Prelude.{◌≡◌, ◌≢◌, ℕ, ◌/◌, ◌==◌, Bool, true, not, List, length, get_or}
use Rattle.std.specs.Prelude.{replicate}
use Rattle.nm_geometry.specs.Geometry.{Geometry, stripe_blocks, stripe_of}
use Rattle.nm_leg.specs.Leg.{Leg}
use Rattle.nm_file_leg.specs.Blocks.{leg_on}
use Rattle.nm_file_leg.specs.declared.mem_medium.MemMedium.{MemMedium}
use Rattle.nm_file_leg.specs.Media.{of_mem}
use Rattle.nm_file_leg.specs.Medium.{Held}

-- the bytes of an array as reads find them, as the next good sync makes them durable, and as a loss
-- of power would leave them
pub record Bytes : Type 0 where
  pub contents : List ℕ
  pub pending : List ℕ
  pub durable : List ℕ

-- the bytes that these three media hold
abbrev pub bytes_of : (contents pending durable : MemMedium) → Bytes
bytes_of contents pending durable = record {
  contents = (of_mem contents).contents;
  pending = (of_mem pending).contents;
  durable = (of_mem durable).contents;
}

-- an array of these bytes, all of them durable
abbrev pub settled : List ℕ → Bytes
settled bytes = record { contents = bytes; pending = bytes; durable = bytes }

-- all three have one length, and what is pending is what was written last or what is durable
pub record IsArray (bytes : Bytes) : Type 0 where
  pub pending_length : length bytes.pending ≡ length bytes.contents
  pub durable_length : length bytes.durable ≡ length bytes.contents
  pub each : (at : ℕ) → get_or bytes.pending at 0 ≢ get_or bytes.contents at 0
      → get_or bytes.pending at 0 ≡ get_or bytes.durable at 0

-- the byte lies in a block of this stripe
abbrev pub lies_in : (stripe : ℕ) → Geometry → (at : ℕ) → Bool
lies_in stripe shape at = stripe_of (at / 512) shape == stripe

-- the byte that reads find is not the one that the next good sync makes durable
abbrev pub is_lost : Bytes → (at : ℕ) → Bool
is_lost bytes at = not (get_or bytes.pending at 0 == get_or bytes.contents at 0)

-- what the user that has the blocks of this stripe has of an array
abbrev pub share_of : (stripe : ℕ) → Geometry → Bytes → Held
share_of stripe shape bytes = record {
  own = lies_in stripe shape;
  contents = bytes.contents;
  durable = bytes.durable;
  lost = is_lost bytes;
}

-- the leg of a stripe that a medium keeps, and that has synced nothing since it was made
abbrev pub new_leg : Held → (stripe : ℕ) → Geometry → Leg
new_leg held stripe shape = record (leg_on held stripe shape 0) {
  unsynced = replicate (stripe_blocks stripe shape) true;
}
