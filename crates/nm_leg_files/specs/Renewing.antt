-- A leg's file, and its superblock's, in the place of other ones.
use Rattle.std.specs.Arc.{arc_value}
use Rattle.std.specs.Prelude.{◌≡◌, ◌⊎◌, ℕ, true, Some, IfSome, IsSome, slice_index}
use Rattle.std.specs.declared.fs.File.{File}
use Rattle.nm_leg_files.specs.declared.late_file.LateFile.{LateFile}
use Rattle.nm_leg_files.specs.declared.leg_file.LegFile.{LegFile}
use Rattle.nm_leg_files.specs.Files.{name_of}
use Rattle.nm_leg_files.specs.Here.{is_here}
use Rattle.nm_leg_files.specs.Limits.{calls_of}
use Rattle.nm_saves.specs.Files.{file_of}
use Rattle.nm_saves.specs.Renewing.{LetsGo, Renews, new_leg}
use Rattle.nm_saves.specs.SavingAll.{FilesState}
use Rattle.nm_superblock.specs.declared.leg_identities.LegIdentities.{LegIdentities}

-- the leg's file, which is open or opened later
abbrev pub late_of : LegFile → LateFile
late_of leg = arc_value (arc_value leg.shared).file.late

-- The leg has this file in the place of the one that it had: by the same name, with as many bytes
-- for its superblock, and the same threads make its calls, where these are limited.
pub record IsAnew (file : File) (old new : LegFile) : Type 0 where
  pub name : name_of new ≡ name_of old
  pub here : is_here new ≡ true
  pub first : (late_of new).first ≡ Some file
  pub window : (late_of new).window ≡ (late_of old).window
  pub calls : calls_of new ≡ calls_of old

-- The leg has a superblock's file anew, the id that it has now, which is another one than before,
-- and its identity among these.
abbrev pub HasNewFile : (leg : ℕ) → LegIdentities → (old new : FilesState) → Type 0
HasNewFile leg identities old new =
    IsSome (file_of leg new.files) × IfSome (file_of leg new.files) (λ file.
    Renews leg (new_leg file (slice_index new.image.leg_ids leg) identities) old new)

-- the leg's superblock is as it was, or was let go
abbrev pub IsLeftOrGone : (leg : ℕ) → (old new : FilesState) → Type 0
IsLeftOrGone leg old new = (new ≡ old) ⊎ LetsGo leg old new
