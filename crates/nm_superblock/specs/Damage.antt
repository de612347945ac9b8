-- Which slots are damaged, and not new or torn: bytes stand there that no save has left.
use Rattle.std.specs.Prelude.{◌≡◌, ◌≢◌, ◌⊎◌, ◌<◌, ◌≤◌, ◌+◌, ◌*◌, ℕ, List, length, take}
use Rattle.std.specs.Prelude.{slice_index, slice_set, None}
use Rattle.nm_superblock.specs.declared.superblock.Superblock.{Superblock}
use Rattle.nm_superblock.specs.Bounds.{IsSuperblock}
use Rattle.nm_superblock.specs.Layout.{header_bytes, slot_bytes, zeroes}
use Rattle.nm_superblock.specs.Sectors.{sector_of, stamp_of}
use Rattle.nm_superblock.specs.Slots.{HasStampsBelow, IsTorn, Place, ReadsAs}

-- a sector has the head of a version, under its stamp
abbrev pub HasHeadOf : (version number : ℕ) → List ℕ → Type 0
HasHeadOf version number slot =
    take 16 (sector_of number slot) ≡ header_bytes version (stamp_of number slot) number

-- a sector's head is valid: it is that of its number under its stamp, which is not 0
pub record HasHead (number : ℕ) (slot : List ℕ) : Type 0 where
  pub stamp : 1 ≤ stamp_of number slot
  pub head : HasHeadOf 1 number slot ⊎ (HasHeadOf 2 number slot ⊎ HasHeadOf 3 number slot)

-- each head is valid, and all have one stamp, as only a save that was whole leaves them
abbrev pub HasOneStamp : List ℕ → Type 0
HasOneStamp slot =
    (number : ℕ) → number < 8 → HasHead number slot × (stamp_of number slot ≡ stamp_of 0 slot)

-- a sector in which nothing was ever written has zeroes alone
abbrev pub IsBlank : (number : ℕ) → List ℕ → Type 0
IsBlank number slot = sector_of number slot ≡ zeroes 512

-- a sector is bad: it is neither blank, nor has a valid head
pub record IsBad (number : ℕ) (slot : List ℕ) : Type 0 where
  pub written : IsBlank number slot → ⊥
  pub headless : HasHead number slot → ⊥

-- some sector is bad
abbrev pub HasBadSector : List ℕ → Type 0
HasBadSector slot = (number : ℕ) × (number < 8) × IsBad number slot

-- a slot is damaged: it is no superblock's, and was saved whole or has a bad sector
pub record IsDamaged (slot : List ℕ) : Type 0 where
  pub unread : ReadsAs slot None
  pub why : HasOneStamp slot ⊎ HasBadSector slot

-- a place is damaged: one of its slots is
pub record IsDamagedPlace (place : Place) : Type 0 where
  pub why : IsDamaged place.first ⊎ IsDamaged place.second

-- A crash at any moment of a save damages no slot that was not.
abbrev pub TornIsUndamaged : Type 0
TornIsUndamaged =
    (old left : List ℕ) (new : Superblock) → IsSuperblock new → length old ≡ 4096
    → HasStampsBelow new.generation old → IsTorn old (slot_bytes new) left
    → (IsDamaged old → ⊥) → IsDamaged left → ⊥

-- A superblock of version 3 of which one byte of a header changed is damaged, and not torn.
abbrev pub ChangedHeadIsDamaged : Type 0
ChangedHeadIsDamaged =
    (s : Superblock) (number at byte : ℕ) → IsSuperblock s → s.version ≡ 3 → number < 8
    → at < 16 → byte < 256 → byte ≢ slice_index (slot_bytes s) (512 * number + at)
    → IsDamaged (slice_set (slot_bytes s) (512 * number + at) byte)

-- And one of which a byte behind a header changed is damaged, unless it then is a superblock's.
abbrev pub ChangedPieceIsDamaged : Type 0
ChangedPieceIsDamaged =
    (s : Superblock) (number at byte : ℕ) → IsSuperblock s → number < 8 → 16 ≤ at → at < 512
    → ReadsAs (slice_set (slot_bytes s) (512 * number + at) byte) None
    → IsDamaged (slice_set (slot_bytes s) (512 * number + at) byte)
