-- A place has two slots: what is read of it, and what a crash in a save may leave of it.
use Rattle.std.specs.Prelude.{◌≡◌, ◌≢◌, ◌⊎◌, ◌<◌, ◌≤◌, ℕ, Bool, true, false, nat_lt, if◌then◌else◌}
use Rattle.std.specs.Prelude.{List, length, Option, None, Some}
use Rattle.nm_superblock.specs.declared.superblock.Superblock.{Superblock}
use Rattle.nm_superblock.specs.Bounds.{IsSuperblock}
use Rattle.nm_superblock.specs.Layout.{slot_bytes}
use Rattle.nm_superblock.specs.Sectors.{HasMagic, sector_of, stamp_of}

-- what a slot is read as: the superblock whose bytes it has, or nothing where it has none's
abbrev pub ReadsAs : List ℕ → Option Superblock → Type 0
ReadsAs slot (Some s) = IsSuperblock s × (slot ≡ slot_bytes s)
ReadsAs slot None = (s : Superblock) → IsSuperblock s → slot ≢ slot_bytes s

-- a place
pub record Place : Type 0 where
  pub first : List ℕ
  pub second : List ℕ

-- what the slots of a place are read as
pub record ReadsPlace (place : Place) (a b : Option Superblock) : Type 0 where
  pub first_size : length place.first ≡ 4096
  pub second_size : length place.second ≡ 4096
  pub first : ReadsAs place.first a
  pub second : ReadsAs place.second b

-- of two slots' superblocks the newer one, which is the place's
abbrev pub newer_of : Option Superblock → Option Superblock → Option Superblock
newer_of None second = second
newer_of (Some a) None = Some a
newer_of (Some a) (Some b) = if nat_lt a.generation b.generation then Some b else Some a

-- whether a save writes the second slot: the one that the place's superblock is not in
abbrev pub writes_second : Option Superblock → Option Superblock → Bool
writes_second None second = false
writes_second (Some a) None = true
writes_second (Some a) (Some b) = if nat_lt a.generation b.generation then false else true

-- each stamp that stands in a slot is lower than this, in sectors of no superblock too, if they
-- begin as one's
abbrev pub HasStampsBelow : ℕ → List ℕ → Type 0
HasStampsBelow generation slot =
    (number : ℕ) → number < 8 → HasMagic number slot → stamp_of number slot < generation

-- the highest stamp in the first sectors of a slot: none is higher, and it is one of them, or 0
pub record IsHighestStamp (count : ℕ) (slot : List ℕ) (stamp : ℕ) : Type 0 where
  pub bound : (number : ℕ) → number < count → HasMagic number slot → stamp_of number slot ≤ stamp
  pub stands : (stamp ≡ 0) ⊎ ((number : ℕ) × (number < count) × HasMagic number slot
      × (stamp_of number slot ≡ stamp))

-- the generation is above this one, and above each stamp of a place
pub record IsAbove (generation after : ℕ) (first second : List ℕ) : Type 0 where
  pub above : after < generation
  pub first_below : HasStampsBelow generation first
  pub second_below : HasStampsBelow generation second

-- there is none lower than this number
abbrev pub IsPastAll : (bound after : ℕ) → (first second : List ℕ) → Type 0
IsPastAll bound after first second =
    (generation : ℕ) → IsAbove generation after first second → bound ≤ generation

-- the first such generation
pub record IsNextGeneration (generation after : ℕ) (first second : List ℕ) : Type 0 where
  pub above : IsAbove generation after first second
  pub least : IsPastAll generation after first second

-- what a crash in a write of a slot may leave: each sector old or new, in any mixture
pub record IsTorn (old new left : List ℕ) : Type 0 where
  pub size : length left ≡ 4096
  pub sectors : (number : ℕ) → number < 8
      → (sector_of number left ≡ sector_of number old)
      ⊎ (sector_of number left ≡ sector_of number new)

-- what a crash in a save, or the save itself, may leave of a place
abbrev pub IsTornSave : (second : Bool) → (old : Place) → (new : List ℕ) → (left : Place) → Type 0
IsTornSave true old new left = (left.first ≡ old.first) × IsTorn old.second new left.second
IsTornSave false old new left = IsTorn old.first new left.first × (left.second ≡ old.second)

-- A crash at any moment of a save leaves a place that is read as before, or as the new superblock,
-- whose stamp is above all that stand in the place.
abbrev pub TornIsOldOrNew : Type 0
TornIsOldOrNew =
    (old left : Place) (new : Superblock) (a b c d : Option Superblock)
    → IsSuperblock new → ReadsPlace old a b → ReadsPlace left c d
    → HasStampsBelow new.generation old.first → HasStampsBelow new.generation old.second
    → IsTornSave (writes_second a b) old (slot_bytes new) left
    → (newer_of c d ≡ newer_of a b) ⊎ (newer_of c d ≡ Some new)

-- And a slot has the bytes of one superblock at most.
abbrev pub SlotsAreRead : Type 0
SlotsAreRead =
    (s t : Superblock) → IsSuperblock s → IsSuperblock t → slot_bytes s ≡ slot_bytes t → s ≡ t
