-- Files of which a write or a sync failed are read again, and may then be written again.
use Rattle.std.specs.Prelude.{◌≡◌, ◌<◌, ◌≤◌, ℕ, Bool, IsTrue, IsFalse, List, length}
use Rattle.std.specs.Prelude.{Option, None, Some}
use Rattle.std.specs.declared.io.Error.{Error}
use Rattle.nm_saves.specs.Errors.{TellsReading, error_of}
use Rattle.nm_saves.specs.FileState.{FileState, IsSettled, TellsDamage, newest_in}
use Rattle.nm_saves.specs.Files.{AreUpTo, IsLeastUpTo, file_of}
use Rattle.nm_saves.specs.SavingAll.{FilesState}
use Rattle.nm_saves.specs.SlotFile.{KeepsSlots}

-- The file is settled and read again. Done, it is what is known of it, and may be written again;
-- not done, it is not written again, and no more is known. Nothing is written, and no stamp that
-- was known is forgotten.
pub record RereadsFile (honest done : Bool) (old new : FileState) : Type 0 where
  pub fine : IsTrue done → IsFalse new.failed
  pub failed : IsFalse done → IsTrue new.failed
  pub settled : IsTrue honest → IsTrue done → IsSettled new
  pub damage : IsTrue honest → IsTrue done → TellsDamage new
  pub unread : IsFalse done → newest_in new ≡ newest_in old
  pub stamps : old.highest ≤ new.highest
  pub unfound : IsFalse done → new.highest ≡ old.highest
  pub keeps : IsTrue honest → KeepsSlots old.held new.held

-- a leg's file is read again if it has failed, and else left as it is
abbrev pub RereadsBeside : (honest : Bool) → (old new : Option FileState) → Type 0
RereadsBeside honest None new = new ≡ None
RereadsBeside honest (Some f) new =
    (g : FileState) × (new ≡ Some g) × (IsFalse f.failed → g ≡ f)
    × (IsTrue f.failed → (done : Bool) × RereadsFile honest done f g)

-- so it is of this leg's alone
pub record RereadsAt (honest : Bool) (leg : ℕ) (old new : List (Option FileState)) : Type 0 where
  pub here : RereadsBeside honest (file_of leg old) (file_of leg new)
  pub others : (other : ℕ) → (other ≡ leg → ⊥) → file_of other new ≡ file_of other old

-- and of those of the first legs
pub record RereadsTo (count : ℕ) (honest : Bool) (old new : List (Option FileState)) : Type 0 where
  pub read : (leg : ℕ) → leg < count → RereadsBeside honest (file_of leg old) (file_of leg new)
  pub others : (leg : ℕ) → count ≤ leg → file_of leg new ≡ file_of leg old

-- what is kept of the first legs' errors tells how that went
pub record TellsTo (count : ℕ) (old new : List (Option FileState))
    (errors next : List (Option Error)) : Type 0 where
  pub told : (leg : ℕ) → leg < count → TellsReading (file_of leg old) (file_of leg new)
      (error_of leg errors) (error_of leg next)
  pub others : (leg : ℕ) → count ≤ leg → error_of leg next ≡ error_of leg errors

-- All files that have failed are read again. The last superblock whose save was done stays, and the
-- next save has the first generation above all that was known, and each stamp that is found.
pub record RereadsFailed (honest : Bool) (old new : FilesState) : Type 0 where
  pub read : (leg : ℕ) → leg < 8
      → RereadsBeside honest (file_of leg old.files) (file_of leg new.files)
  pub count : length new.files ≡ length old.files
  pub errors : TellsTo 8 old.files new.files old.errors new.errors
  pub image : new.image ≡ old.image
  pub highest : old.highest ≤ new.highest
  pub above : AreUpTo 8 new.highest new.files
  pub least : IsLeastUpTo 8 old.highest new.highest new.files
