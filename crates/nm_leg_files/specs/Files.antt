-- The legs' files, the mirror that is laid over them, and where its legs stand.
use Rattle.std.specs.Arc.{arc_value}
use Rattle.std.specs.Prelude.{◌≡◌, ℕ, zero, suc, ◌*◌, ◌-◌, ◌^◌, min, string_bytes}
use Rattle.std.specs.Prelude.{IfSome, slice_get}
use Rattle.std.specs.Prelude.{List, [], ◌∷◌, ◌++◌, length, map}
use Rattle.nm_geometry.specs.Geometry.{Geometry, geometry, regions_for}
use Rattle.nm_leg_files.specs.declared.counting_file.CountingFile.{CountingFile}
use Rattle.nm_leg_files.specs.declared.limited_file.LimitedFile.{LimitedFile}
use Rattle.nm_leg_files.specs.declared.leg_file.LegFile.{LegFile}
use Rattle.nm_leg_files.specs.declared.leg_files.LegFiles.{LegFiles}

-- the mirror over the files: regions of 128 blocks, chunks of as many, as many stripes as were
-- asked for, or one a region where there are fewer regions, and so many kept entries a stripe
abbrev pub laid_over : (stripes history : ℕ) → LegFiles → Geometry
laid_over stripes history files =
    geometry files.blocks 128 128 (min stripes (regions_for 128 files.blocks))
    (length files.files.items) history

-- how many bytes all the files have, or the largest number there is
abbrev pub bytes_in : LegFiles → ℕ
bytes_in files = min (512 * files.blocks * length files.files.items) (2 ^ 64 - 1)

-- the name that a leg's file is opened by
abbrev pub name_of : LegFile → List ℕ
name_of leg = string_bytes leg.name

-- the names that the legs' files are opened by, leg 0's first
abbrev pub names_of : LegFiles → List (List ℕ)
names_of files = map name_of files.files.items

-- Where a leg stands: the file that it reads and writes, which is open or opened later, which user
-- of the file it is, and the stripe of a mirror of this shape whose blocks it has.
pub record LegPlace : Type 0 where
  pub file : LimitedFile
  pub user : ℕ
  pub stripe : ℕ
  pub shape : Geometry

-- where the leg of this stripe on such a medium stands
abbrev pub leg_place : CountingFile → (stripe : ℕ) → Geometry → LegPlace
leg_place medium stripe shape = record {
  file = (arc_value medium.file.file).file;
  user = medium.file.number;
  stripe = stripe;
  shape = shape;
}

-- where the leg of a stripe on this file is to stand: each stripe is a user of its own
abbrev pub place_on : (stripe : ℕ) → Geometry → LegFile → LegPlace
place_on stripe shape leg = record {
  file = (arc_value leg.shared).file;
  user = stripe;
  stripe = stripe;
  shape = shape;
}

-- where the legs of a stripe are to stand: each on its own file
abbrev pub stripe_places : (stripe : ℕ) → Geometry → LegFiles → List LegPlace
stripe_places stripe shape files = map (place_on stripe shape) files.files.items

-- where the legs of so many stripes are to stand, stripe 0's first
abbrev pub places_of : (stripes : ℕ) → Geometry → LegFiles → List (List LegPlace)
places_of zero shape files = []
places_of (suc stripes) shape files =
    places_of stripes shape files ++ stripe_places stripes shape files ∷ []

-- where the legs of all stripes of a mirror are to stand
abbrev pub mirror_places : Geometry → LegFiles → List (List LegPlace)
mirror_places shape files = places_of shape.stripes shape files

-- where the legs of so many stripes on one file are to stand, stripe 0's first
abbrev pub file_places : (stripes : ℕ) → Geometry → LegFile → List LegPlace
file_places zero shape leg = []
file_places (suc stripes) shape leg =
    file_places stripes shape leg ++ place_on stripes shape leg ∷ []

-- a leg that stands here is of this stripe of a mirror of this shape, and that user of its file
abbrev pub IsOfStripe : (stripe : ℕ) → Geometry → LegPlace → Type 0
IsOfStripe stripe shape place =
    place ≡ record { file = place.file; user = stripe; stripe = stripe; shape = shape }

-- legs that stand here are those of all stripes of a mirror of this shape, stripe 0's first
pub record AreOfStripes (shape : Geometry) (places : List LegPlace) : Type 0 where
  pub count : length places ≡ shape.stripes
  pub each : (stripe : ℕ) → IfSome (slice_get places stripe) (IsOfStripe stripe shape)
