-- A superblock's file as the server knows it, and what a save does to it.
use Rattle.std.specs.Prelude.{◌≡◌, ◌⊎◌, ◌<◌, ◌≤◌, ◌↔◌, ℕ, Bool, IsTrue, IsFalse, if◌then◌else◌}
use Rattle.std.specs.Prelude.{List, replicate, Option, None, Some}
use Rattle.nm_superblock.specs.declared.superblock.Superblock.{Superblock}
use Rattle.nm_superblock.specs.Bounds.{IsInBounds}
use Rattle.nm_superblock.specs.Damage.{IsDamagedPlace}
use Rattle.nm_superblock.specs.Layout.{slot_bytes}
use Rattle.nm_superblock.specs.Sectors.{HasMagic, stamp_of}
use Rattle.nm_superblock.specs.Slots.{IsTornSave, Place, ReadsPlace, newer_of, writes_second}
use Rattle.nm_saves.specs.SlotFile.{Held, IsDurably, place_of, with_slot}

-- What the file holds, what its slots were read as or written with, the highest stamp in it or
-- tried, whether a write or a sync of it failed, and whether it was damaged when it was read last.
pub record FileState : Type 0 where
  pub held : Held
  pub first : Option Superblock
  pub second : Option Superblock
  pub highest : ℕ
  pub failed : Bool
  pub damaged : Bool

abbrev pub state_of : Held → (first second : Option Superblock) → ℕ → (failed damaged : Bool)
    → FileState
state_of held first second highest failed damaged = record {
  held = held;
  first = first;
  second = second;
  highest = highest;
  failed = failed;
  damaged = damaged;
}

-- the file's superblock
abbrev pub newest_in : FileState → Option Superblock
newest_in f = newer_of f.first f.second

-- the superblock that a start finds in the file: none in one that is damaged
abbrev pub found_in : FileState → Option Superblock
found_in f = if f.damaged then None else newest_in f

-- it was found out whether the file is damaged
abbrev pub TellsDamage : FileState → Type 0
TellsDamage f = IsTrue f.damaged ↔ IsDamagedPlace f.held.durable

-- whether a save writes the second slot
abbrev pub saves_second : FileState → Bool
saves_second f = writes_second f.first f.second

-- no stamp in the slot is higher, in sectors that begin as a superblock's
abbrev pub HasStampsUpTo : ℕ → List ℕ → Type 0
HasStampsUpTo highest slot =
    (number : ℕ) → number < 8 → HasMagic number slot → stamp_of number slot ≤ highest

-- the superblock, if there is one, has no higher generation
abbrev pub IsUpTo : ℕ → Option Superblock → Type 0
IsUpTo highest None = Unit {0}
IsUpTo highest (Some s) = s.generation ≤ highest

-- what the file holds is durable, and is what is known of it
pub record IsSettled (f : FileState) : Type 0 where
  pub durable : IsDurably f.held.durable f.held
  pub reads : ReadsPlace f.held.durable f.first f.second
  pub first_stamps : HasStampsUpTo f.highest f.held.durable.first
  pub second_stamps : HasStampsUpTo f.highest f.held.durable.second

-- what is true of each file: until it fails it is settled
pub record IsSound (honest : Bool) (f : FileState) : Type 0 where
  pub first : IsUpTo f.highest f.first
  pub second : IsUpTo f.highest f.second
  pub settled : IsTrue honest → IsFalse f.failed → IsSettled f

-- a file that is opened: nothing of it has failed, it is settled, and known to be damaged or not
pub record Opens (honest : Bool) (f : FileState) : Type 0 where
  pub fine : IsFalse f.failed
  pub settled : IsTrue honest → IsSettled f
  pub damage : IsTrue honest → TellsDamage f

-- each byte of the file is zero
abbrev pub HoldsBlank : Bool → FileState → Type 0
HoldsBlank honest f =
    IsTrue honest → IsDurably (place_of (replicate 4096 0) (replicate 4096 0)) f.held

-- the file does not take the superblock
abbrev pub IsRefused : Superblock → FileState → Type 0
IsRefused s f = IsTrue f.failed ⊎ ((s.generation ≤ f.highest) ⊎ (IsInBounds s → ⊥))

-- whatever slots these are read as, the superblock in them is the old one or the new one
abbrev pub IsOldOrNew : Option Superblock → (new : Superblock) → Place → Type 0
IsOldOrNew old new place =
    (a b : Option Superblock) → ReadsPlace place a b
    → (newer_of a b ≡ old) ⊎ (newer_of a b ≡ Some new)

-- A save of a superblock that the file takes. Done, the file durably holds it in the slot that its
-- superblock was not in, and the other slot as it was. Failed, or cut off by a crash, it is read as
-- before or as the new one, and is not written again.
pub record Saves (honest done : Bool) (s : Superblock) (old new : FileState) : Type 0 where
  pub stamp : new.highest ≡ s.generation
  pub damage : new.damaged ≡ old.damaged
  pub newest : IsTrue done → newest_in new ≡ Some s
  pub failed : IsTrue done → IsFalse new.failed
  pub never_again : IsFalse done → IsTrue new.failed
  pub settled : IsTrue honest → IsTrue done → IsSettled new
  pub written : IsTrue honest → IsTrue done
      → new.held.durable ≡ with_slot (saves_second old) (slot_bytes s) old.held.durable
  pub torn : IsTrue honest
      → IsTornSave (saves_second old) old.held.durable (slot_bytes s) new.held.durable
  pub read : IsTrue honest → IsOldOrNew (newest_in old) s new.held.contents
  pub left : IsTrue honest → IsOldOrNew (newest_in old) s new.held.durable

-- and of any superblock: one that the file does not take leaves it as it is
pub record SavesFile (honest done : Bool) (s : Superblock) (old new : FileState) : Type 0 where
  pub refused : IsRefused s old → IsFalse done × (new ≡ old)
  pub saves : (IsRefused s old → ⊥) → Saves honest done s old new
