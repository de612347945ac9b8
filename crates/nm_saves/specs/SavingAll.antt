-- A save of the next superblock to the files of all legs: done, or not.
use Rattle.std.specs.Prelude.{◌≡◌, ◌⊎◌, ◌<◌, ◌≤◌, ◌+◌, ◌^◌, ℕ, Bool, true, not, IsTrue, IsFalse}
use Rattle.std.specs.Prelude.{List, slice_index, Option, Some}
use Rattle.nm_superblock.specs.declared.superblock.Superblock.{Superblock}
use Rattle.nm_superblock.specs.declared.leg_sets.LegSets.{LegSets}
use Rattle.nm_superblock.specs.declared.span_map.SpanMap.{SpanMap}
use Rattle.std.specs.declared.io.Error.{Error}
use Rattle.nm_geometry.specs.LegSets.{HasSome, has}
use Rattle.nm_saves.specs.Errors.{KeepsFirst, error_of}
use Rattle.nm_saves.specs.FileState.{FileState}
use Rattle.nm_saves.specs.Files.{IsNamed, IsNameless, SavesBeside, copy_of, file_of, newest_of}

-- the files, the last superblock whose save was done, the highest generation that was tried or
-- stamp that was found, and the error that is kept of each leg's file
pub record FilesState : Type 0 where
  pub files : List (Option FileState)
  pub image : Superblock
  pub highest : ℕ
  pub errors : List (Option Error)

-- what the next superblock is to say, and which legs are out
pub record Request : Type 0 where
  pub sets : LegSets
  pub marked : SpanMap
  pub clean : Bool
  pub changed : List ℕ
  pub out : List Bool

abbrev pub request_of : LegSets → SpanMap → Bool → (changed : List ℕ) → (out : List Bool) → Request
request_of sets marked clean changed out =
    record { sets = sets; marked = marked; clean = clean; changed = changed; out = out }

-- what a save that was done has made durable
pub record SavedState : Type 0 where
  pub sets : LegSets
  pub marked : SpanMap

-- the next superblock
abbrev pub next_of : FilesState → Request → Superblock
next_of s r = record s.image {
  generation = s.highest + 1;
  sets = r.sets;
  marked = r.marked;
  clean = r.clean;
  changed = r.changed;
}

-- what a save makes of a leg's file, and its error
abbrev pub Makes : (honest done : Bool) → (leg : ℕ) → Request → (old new : FilesState) → Type 0
Makes honest done leg r old new =
    SavesBeside honest done leg (next_of old r) (file_of leg old.files) (file_of leg new.files)
    × KeepsFirst (not done) (error_of leg old.errors) (error_of leg new.errors)

-- the leg's file is as it was, and so is its error
abbrev pub Leaves : (leg : ℕ) → (old new : FilesState) → Type 0
Leaves leg old new =
    (file_of leg new.files ≡ file_of leg old.files)
    × (error_of leg new.errors ≡ error_of leg old.errors)

-- A save that was done: each leg that it names has the next superblock, durably; each other one is
-- tried, but for those that are out, whose files stay. What is surely beside a leg stands in its
-- file.
pub record IsDone (honest : Bool) (r : Request) (old new : FilesState) : Type 0 where
  pub named : (leg : ℕ) → leg < 8 → IsNamed leg r.sets → Makes honest true leg r old new
  pub others : (leg : ℕ) → leg < 8 → (IsNamed leg r.sets → ⊥) → IsFalse (has leg r.out)
      → (done : Bool) × Makes honest done leg r old new
  pub out : (leg : ℕ) → leg < 8 → (IsNamed leg r.sets → ⊥) → IsTrue (has leg r.out)
      → Leaves leg old new
  pub generation : new.highest ≡ old.highest + 1
  pub image : new.image ≡ record (next_of old r) { seen = new.image.seen }
  pub seen_named : (leg : ℕ) → leg < 8 → IsNamed leg r.sets
      → slice_index new.image.seen leg ≡ old.highest + 1
  pub seen : (leg : ℕ) → leg < 8
      → (slice_index new.image.seen leg ≡ slice_index old.image.seen leg)
      ⊎ ((slice_index new.image.seen leg ≡ old.highest + 1)
      × (newest_of (file_of leg new.files) ≡ Some (copy_of leg (next_of old r))))

-- A save that was not: a leg that it names lacks it, and no file of another leg was touched.
pub record IsUndone (honest : Bool) (r : Request) (failed : List Bool) (old new : FilesState)
    : Type 0 where
  pub named : (leg : ℕ) → leg < 8 → IsNamed leg r.sets
      → Makes honest (not (has leg failed)) leg r old new
  pub others : (leg : ℕ) → leg < 8 → (IsNamed leg r.sets → ⊥)
      → IsFalse (has leg failed) × Leaves leg old new
  pub some : HasSome failed
  pub generation : new.highest ≡ old.highest + 1
  pub image : new.image ≡ old.image

-- A save that does not begin: no generation is left, or it names no leg in some stripe.
pub record TakesNone (r : Request) (failed : List Bool) (old new : FilesState) : Type 0 where
  pub cause : (2 ^ 64 ≤ old.highest + 1) ⊎ IsNameless old.image.stripes r.sets
  pub none : (leg : ℕ) → leg < 8 → IsFalse (has leg failed)
  pub same : new ≡ old
