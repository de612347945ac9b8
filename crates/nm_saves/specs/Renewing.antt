-- A leg gets another superblock's file, and a new id.
use Rattle.std.specs.Prelude.{◌≡◌, ◌≢◌, ℕ, length, max, slice_index, slice_set, None, Some}
use Rattle.nm_saves.specs.Errors.{error_of}
use Rattle.nm_saves.specs.FileState.{FileState}
use Rattle.nm_saves.specs.Files.{file_of}
use Rattle.nm_saves.specs.SavingAll.{FilesState, Leaves}
use Rattle.nm_superblock.specs.declared.leg_identities.LegIdentities.{LegIdentities}
use Rattle.nm_superblock.specs.Identities.{Puts}

-- no other leg's file changed, nor its error
abbrev pub LeavesOthers : (leg : ℕ) → (old new : FilesState) → Type 0
LeavesOthers leg old new = (other : ℕ) → other ≢ leg → Leaves other old new

-- the leg has no file any more, and no error is kept of it
pub record LetsGo (leg : ℕ) (old new : FilesState) : Type 0 where
  pub gone : file_of leg new.files ≡ None
  pub error : error_of leg new.errors ≡ None
  pub count : length new.files ≡ length old.files
  pub others : LeavesOthers leg old new
  pub stays : new ≡ record old { files = new.files; errors = new.errors }

-- What a leg gets: its superblock's file, its id, and its own file's identity, which it has among
-- these.
pub record NewLeg : Type 0 where
  pub file : FileState
  pub id : ℕ
  pub identities : LegIdentities

abbrev pub new_leg : FileState → (id : ℕ) → LegIdentities → NewLeg
new_leg file id identities = record { file = file; id = id; identities = identities }

-- The leg has this file, of which no error is kept, this id, which is neither its old one nor 0,
-- and this identity. What is saved from now on has them.
pub record Renews (leg : ℕ) (own : NewLeg) (old new : FilesState) : Type 0 where
  pub has : file_of leg new.files ≡ Some own.file
  pub error : error_of leg new.errors ≡ None
  pub count : length new.files ≡ length old.files
  pub others : LeavesOthers leg old new
  pub image : new.image ≡ record old.image {
    leg_ids = slice_set old.image.leg_ids leg own.id;
    identities = new.image.identities;
  }
  pub identities : Puts leg leg own.identities old.image.identities new.image.identities
  pub other_id : slice_index new.image.leg_ids leg ≢ slice_index old.image.leg_ids leg
  pub some_id : slice_index new.image.leg_ids leg ≢ 0
  pub highest : new.highest ≡ max old.highest own.file.highest
