-- What a start by an image saves, and what the gates of its stripes know from then on.
use Rattle.std.specs.Prelude.{◌≡◌, ◌<◌, ◌↔◌, ℕ, Bool, true, false, not, IsTrue}
use Rattle.std.specs.Prelude.{List, length, map, slice_index_or, Option, None, Some}
use Rattle.nm_gate.specs.Durable.{Durable}
use Rattle.nm_geometry.specs.LegSets.{has, legs_where}
use Rattle.nm_plans.specs.Plan.{AreDurablesOf}
use Rattle.nm_rules.specs.State.{StripeState}
use Rattle.nm_saves.specs.FileState.{FileState}
use Rattle.nm_saves.specs.Files.{AreFound}
use Rattle.nm_saves.specs.SavingAll.{FilesState, IsDone, request_of}
use Rattle.nm_superblock.specs.declared.superblock.Superblock.{Superblock}

-- the legs whose files are not here
abbrev pub absent_legs : (here : List Bool) → List Bool
absent_legs here = legs_where (λ leg. not (has leg here))

-- What the image says was saved, as by a server that has not ended: with the legs out whose files
-- are not here.
abbrev pub SavesOnce : (honest : Bool) → Superblock → (here : List Bool) → (old new : FilesState)
    → Type 0
SavesOnce honest image here old new =
    IsDone honest
    (request_of image.sets image.marked false image.changed (absent_legs here)) old new

-- a save was done, or two of them
abbrev pub SavesTimes : (twice : Bool) → (FilesState → FilesState → Type 0)
    → (old new : FilesState) → Type 0
SavesTimes false saves old new = saves old new
SavesTimes true saves old new =
    (between : FilesState) × saves old between × saves between new

-- the superblock, if there is one, is of a version before the one that is saved
abbrev pub IsOlder : Option Superblock → Type 0
IsOlder None = ⊥
IsOlder (Some s) = s.version < 3

-- some leg's is
abbrev pub HasOlder : List (Option Superblock) → Type 0
HasOlder found = (leg : ℕ) × (leg < 8) × IsOlder (slice_index_or found leg None)

-- The image was saved into files whose saves go on from it: into both slots of each where an older
-- superblock was found in one.
pub record IsSaved (honest : Bool) (image : Superblock) (here : List Bool)
    (was : List (Option FileState)) (files : FilesState) : Type 0 where
  pub before : FilesState
  pub goes_on : before.image ≡ image
  pub found : List (Option Superblock)
  pub are_found : AreFound 8 was found
  pub twice : Bool
  pub older : IsTrue twice ↔ HasOlder found
  pub saved : SavesTimes twice (SavesOnce honest image here) before files

-- each gate knows what the image says of its stripe
pub record GatesKnow {L : Type 0} (image : Superblock) (stripes : List (StripeState L))
    (gates : List (Option Durable)) : Type 0 where
  pub states : List Durable
  pub by_image : AreDurablesOf (length stripes) image stripes states
  pub gates_are : gates ≡ map Some states
