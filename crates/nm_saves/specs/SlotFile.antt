-- What a superblock's file holds, and what one call does to it.
--
-- The premise of an honest file is that a sector of 512 bytes is written whole or not at all.
use Rattle.std.specs.Prelude.{◌≡◌, ℕ, Bool, true, false, IsTrue, IsFalse, List, []}
use Rattle.nm_superblock.specs.Slots.{IsTorn, IsTornSave, Place}

-- The slots as reads find them, the same as a loss of power would leave them, and whether something
-- is lost to later syncs, since a call failed.
pub record Held : Type 0 where
  pub contents : Place
  pub durable : Place
  pub lost : Bool

-- these slots
abbrev pub place_of : (first second : List ℕ) → Place
place_of first second = record { first = first; second = second }

-- the second slot, or the first
abbrev pub slot_of : (second : Bool) → Place → List ℕ
slot_of true place = place.second
slot_of false place = place.first

-- these slots with other bytes in the second one, or in the first
abbrev pub with_slot : (second : Bool) → List ℕ → Place → Place
with_slot true bytes place = place_of place.first bytes
with_slot false bytes place = place_of bytes place.second

-- a file of which nothing is known
abbrev pub unknown : Held
unknown = record { contents = place_of [] []; durable = place_of [] []; lost = true }

-- the file holds these slots, durably, and nothing is lost
pub record IsDurably (place : Place) (held : Held) : Type 0 where
  pub contents : held.contents ≡ place
  pub durable : held.durable ≡ place
  pub kept : IsFalse held.lost

-- What a sync leaves durable of a slot: each sector as it was durable, or as it was read. Where
-- both were the same it stays.
pub record KeepsSlot (durable contents left : List ℕ) : Type 0 where
  pub sectors : IsTorn durable contents left
  pub same : durable ≡ contents → left ≡ durable

-- and of both slots
pub record KeepsSlots (old new : Held) : Type 0 where
  pub first : KeepsSlot old.durable.first old.contents.first new.durable.first
  pub second : KeepsSlot old.durable.second old.contents.second new.durable.second

-- The file is settled: what is read is what is durable, and nothing is lost.
pub record Settles (honest done : Bool) (old new : Held) : Type 0 where
  pub settled : IsTrue honest → IsTrue done → IsDurably new.durable new
  pub keeps : IsTrue honest → KeepsSlots old new

-- A slot is read, which leaves the file as it was.
pub record ReadsSlot (honest done second : Bool) (old new : Held) (into : List ℕ) : Type 0 where
  pub found : IsTrue honest → IsTrue done → into ≡ slot_of second old.contents
  pub same : IsTrue honest → new ≡ old

-- A slot is written. The other one is not touched. A fault leaves each sector old or new.
pub record WritesSlot (honest done second : Bool) (bytes : List ℕ) (old new : Held)
    : Type 0 where
  pub written : IsTrue honest → IsTrue done → new.contents ≡ with_slot second bytes old.contents
  pub kept : IsTrue honest → IsTrue done → new.lost ≡ old.lost
  pub contents : IsTrue honest → IsTornSave second old.contents bytes new.contents
  pub durable : IsTrue honest → IsTornSave second old.durable bytes new.durable

-- A sync. Success makes all durable, unless something was lost.
pub record SyncsFile (honest done : Bool) (old new : Held) : Type 0 where
  pub durable : IsTrue honest → IsTrue done → IsFalse old.lost → IsDurably old.contents new
  pub contents : IsTrue honest → new.contents ≡ old.contents
  pub keeps : IsTrue honest → KeepsSlots old new

-- A slot is written durably, into a file that held these slots so.
pub record WritesDurably (honest done second : Bool) (bytes : List ℕ) (old new : Held)
    : Type 0 where
  pub written : IsTrue honest → IsTrue done → (place : Place) → IsDurably place old
      → IsDurably (with_slot second bytes place) new
  pub contents : IsTrue honest → (place : Place) → IsDurably place old
      → IsTornSave second place bytes new.contents
  pub durable : IsTrue honest → (place : Place) → IsDurably place old
      → IsTornSave second place bytes new.durable

-- Both slots are written with these bytes, durably.
abbrev pub Blanks : (honest done : Bool) → List ℕ → (new : Held) → Type 0
Blanks honest done bytes new = IsTrue honest → IsTrue done → IsDurably (place_of bytes bytes) new
