-- What a leg on a medium knows of it.
use Rattle.std.specs.Prelude.{◌≡◌, ℕ, zero, suc, ◌+◌, ◌-◌, ◌/◌, ◌<◌, ◌≤◌, Bool, IsTrue, IsFalse}
use Rattle.std.specs.Prelude.{List, [], ◌∷◌}
use Rattle.nm_leg.specs.Leg.{Leg}
use Rattle.nm_geometry.specs.Geometry.{Geometry, stripe_blocks}
use Rattle.nm_file_leg.specs.Medium.{Held, Owns, Kept}
use Rattle.nm_file_leg.specs.Blocks.{first_byte, bytes_at, leg_on}
use Rattle.nm_file_leg.specs.Remembered.{Remembered, is_written, cursor_in}

-- every block of the stripe is the user's own
abbrev pub OwnsBlocks : Held → (stripe : ℕ) → Geometry → Type 0
OwnsBlocks held stripe shape =
    (block : ℕ) → block < stripe_blocks stripe shape
    → Owns held (first_byte stripe shape block) 512

-- the next sync that succeeds makes the first blocks of the stripe durable, so many of them
abbrev pub KeepsBlocks : Held → (stripe : ℕ) → Geometry → (many : ℕ) → Type 0
KeepsBlocks held stripe shape many =
    (block : ℕ) → block < many → Kept held (first_byte stripe shape block) 512

-- this block is durable
abbrev pub IsDurableAt : Held → (stripe : ℕ) → Geometry → (block : ℕ) → Type 0
IsDurableAt held stripe shape block =
    bytes_at stripe shape block held.durable ≡ bytes_at stripe shape block held.contents

-- every block of the stripe is durable
abbrev pub IsDurable : Held → (stripe : ℕ) → Geometry → Type 0
IsDurable held stripe shape =
    (block : ℕ) → block < stripe_blocks stripe shape → IsDurableAt held stripe shape block

-- What a leg remembers of its regions is so: the blocks that no failed sync lost, or that were
-- written again since, are kept; all are durable of a region that was not written since the last
-- sync that succeeded, and of every region where none was.
pub record FileRules (honest : Bool) (held : Held) (stripe : ℕ) (shape : Geometry)
    (memory : Remembered) (dirty : Bool) : Type 0 where
  pub region : memory.region ≡ shape.region
  pub blocks : memory.blocks ≡ stripe_blocks stripe shape
  pub kept : IsTrue honest → (block : ℕ) → block < stripe_blocks stripe shape
      → block < cursor_in (block / shape.region) memory
      → Kept held (first_byte stripe shape block) 512
  pub durable : IsTrue honest → (block : ℕ) → block < stripe_blocks stripe shape
      → IsFalse (is_written (block / shape.region) memory) → IsDurableAt held stripe shape block
  pub synced : IsTrue honest → IsFalse dirty → IsDurable held stripe shape

-- for each of so many blocks, from this one on, whether its region was written since the last sync
-- that succeeded
abbrev pub written_from : Remembered → (many block : ℕ) → List Bool
written_from memory zero block = []
written_from memory (suc many) block =
    is_written (block / memory.region) memory ∷ written_from memory many (block + 1)

-- the leg of a stripe that a medium keeps, with the marks that it remembers
abbrev pub file_leg : Held → (stripe : ℕ) → Geometry → (faults : ℕ) → Remembered → Leg
file_leg held stripe shape faults memory = record (leg_on held stripe shape faults) {
  unsynced = written_from memory (stripe_blocks stripe shape) 0;
}

-- a medium of so many bytes reaches to the end of the stripe's last block
abbrev pub Reaches : (stripe : ℕ) → Geometry → (size : ℕ) → Type 0
Reaches stripe shape size = first_byte stripe shape (stripe_blocks stripe shape - 1) + 512 ≤ size
