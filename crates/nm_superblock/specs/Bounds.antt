-- Which superblocks there are: the numbers' bounds, and that each fits its field.
use Rattle.std.specs.Prelude.{◌≡◌, ◌⊎◌, ◌<◌, ◌≤◌, ◌^◌, ℕ, List, length, replicate, slice_index}
use Rattle.nm_superblock.specs.declared.superblock.Superblock.{Superblock}

-- a superblock of version 1 tells of no leg's identity, nor of a time
pub record IsUntold (s : Superblock) : Type 0 where
  pub identities : s.identities.words ≡ replicate 32 0
  pub changed : s.changed ≡ replicate 8 0

-- it is of version 2 or 3, or of version 1 and tells no more than that has
abbrev pub HasVersion : Superblock → Type 0
HasVersion s = ((s.version ≡ 1) × IsUntold s) ⊎ ((s.version ≡ 2) ⊎ (s.version ≡ 3))

-- each number is within its bounds
pub record IsInBounds (s : Superblock) : Type 0 where
  pub version : HasVersion s
  pub generation : 1 ≤ s.generation
  pub blocks : (1 ≤ s.blocks) × (s.blocks ≤ 2 ^ 31)
  pub region_blocks : 1 ≤ s.region_blocks
  pub span_regions : 1 ≤ s.span_regions
  pub stripes : (1 ≤ s.stripes) × (s.stripes ≤ 64)
  pub legs : (1 ≤ s.legs) × (s.legs ≤ 8)
  pub leg : s.leg < s.legs

-- so many numbers, each of at most 64 bits
pub record AreNumbers (count : ℕ) (numbers : List ℕ) : Type 0 where
  pub size : length numbers ≡ count
  pub fit : (i : ℕ) → slice_index numbers i < 2 ^ 64

-- each number fits its field, and each table has its length
pub record Fits (s : Superblock) : Type 0 where
  pub generation : s.generation < 2 ^ 64
  pub mirror : s.mirror < 2 ^ 128
  pub blocks : s.blocks < 2 ^ 64
  pub region_blocks : s.region_blocks < 2 ^ 32
  pub span_regions : s.span_regions < 2 ^ 32
  pub leg_ids : AreNumbers 8 s.leg_ids
  pub seen : AreNumbers 8 s.seen
  pub sets : length s.sets.bytes ≡ 256
  pub lineages : AreNumbers 4 s.lineages
  pub forks : AreNumbers 4 s.forks
  pub marked : length s.marked.bytes ≡ 2048
  pub identities : AreNumbers 32 s.identities.words
  pub changed : AreNumbers 8 s.changed
  pub version : s.version < 2 ^ 8

-- a superblock that can be kept
pub record IsSuperblock (s : Superblock) : Type 0 where
  pub fits : Fits s
  pub bounds : IsInBounds s
