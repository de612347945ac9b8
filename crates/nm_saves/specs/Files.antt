-- The files of all legs, one after the other from leg 0 on, and the rounds of a save.
use Rattle.std.specs.Prelude.{◌≡◌, ◌<◌, ◌≤◌, ◌↔◌, ◌&&◌, ◌||◌, ℕ, Bool, false, not}
use Rattle.std.specs.Prelude.{IsTrue, IsFalse, if◌then◌else◌, List, slice_index, slice_index_or}
use Rattle.std.specs.Prelude.{Option, None, Some}
use Rattle.std.specs.Int.{bit_at}
use Rattle.nm_geometry.specs.LegSets.{has}
use Rattle.nm_superblock.specs.declared.superblock.Superblock.{Superblock}
use Rattle.nm_superblock.specs.declared.leg_sets.LegSets.{LegSets}
use Rattle.nm_superblock.specs.Spans.{in_sync_of}
use Rattle.nm_saves.specs.FileState.{FileState, SavesFile, found_in, newest_in}

-- the file beside a leg, if it has one
abbrev pub file_of : (leg : ℕ) → List (Option FileState) → Option FileState
file_of leg files = slice_index_or files leg None

-- its superblock
abbrev pub newest_of : Option FileState → Option Superblock
newest_of None = None
newest_of (Some f) = newest_in f

-- the superblock that a start finds in it
abbrev pub found_of : Option FileState → Option Superblock
found_of None = None
found_of (Some f) = found_in f

-- the highest stamp in it
abbrev pub stamp_in : Option FileState → ℕ
stamp_in None = 0
stamp_in (Some f) = f.highest

-- whether it has failed
abbrev pub has_failed_in : Option FileState → Bool
has_failed_in None = false
has_failed_in (Some f) = f.failed

-- the superblocks that a start finds beside the first legs
abbrev pub AreFound : ℕ → List (Option FileState) → List (Option Superblock) → Type 0
AreFound count files found =
    (leg : ℕ) → leg < count → slice_index_or found leg None ≡ found_of (file_of leg files)

-- no stamp in the files of the first legs is higher
abbrev pub AreUpTo : (count highest : ℕ) → List (Option FileState) → Type 0
AreUpTo count highest files = (leg : ℕ) → leg < count → stamp_in (file_of leg files) ≤ highest

-- no number is lower that is this one or higher, and that no stamp in them is higher than
abbrev pub IsLeastUpTo : (count after highest : ℕ) → List (Option FileState) → Type 0
IsLeastUpTo count after highest files =
    (number : ℕ) → after ≤ number → AreUpTo count number files → highest ≤ number

-- those of the first legs whose file has failed
abbrev pub AreFailed : ℕ → List (Option FileState) → List Bool → Type 0
AreFailed count files failed =
    (leg : ℕ) → leg < count → has leg failed ≡ has_failed_in (file_of leg files)

-- the sets name a leg: it is in sync in some stripe
abbrev pub IsNamed : (leg : ℕ) → LegSets → Type 0
IsNamed leg sets = (stripe : ℕ) × (stripe < 64) × (bit_at (in_sync_of stripe sets) leg ≡ 1)

-- those of the first legs that are named
abbrev pub AreNamed : ℕ → LegSets → List Bool → Type 0
AreNamed count sets named =
    (leg : ℕ) → leg < count → IsTrue (has leg named) ↔ IsNamed leg sets

-- in some of these stripes no leg is in sync
abbrev pub IsNameless : (stripes : ℕ) → LegSets → Type 0
IsNameless stripes sets =
    (stripe : ℕ) × (stripe < 64) × (stripe < stripes) × (in_sync_of stripe sets ≡ 0)

-- those of the first legs that are neither named nor out
abbrev pub AreOthers : ℕ → (named out others : List Bool) → Type 0
AreOthers count named out others =
    (leg : ℕ) → leg < count → has leg others ≡ not (has leg named) && not (has leg out)

-- the superblock as it is kept beside a leg
abbrev pub copy_of : (leg : ℕ) → Superblock → Superblock
copy_of leg s = record s { leg = leg }

-- A superblock is saved beside a leg. A leg without a file does not get it.
abbrev pub SavesBeside : (honest done : Bool) → (leg : ℕ) → Superblock
    → (old new : Option FileState) → Type 0
SavesBeside honest done leg s None new = IsFalse done × (new ≡ None)
SavesBeside honest done leg s (Some f) new =
    (g : FileState) × (new ≡ Some g) × SavesFile honest done (copy_of leg s) f g

-- it is saved beside this leg alone
pub record SavesAt (honest done : Bool) (leg : ℕ) (s : Superblock)
    (old new : List (Option FileState)) : Type 0 where
  pub here : SavesBeside honest done leg s (file_of leg old) (file_of leg new)
  pub others : (other : ℕ) → (other ≡ leg → ⊥) → file_of other new ≡ file_of other old

-- A round of a save: the superblock, the legs beside which it is saved, and where that failed.
pub record Round : Type 0 where
  pub superblock : Superblock
  pub to : List Bool
  pub failed : List Bool

abbrev pub round_of : Superblock → (to failed : List Bool) → Round
round_of superblock to failed =
    record { superblock = superblock; to = to; failed = failed }

-- what is made of a leg's file in a round that goes to it or not
abbrev pub PassesBeside : (honest goes failed : Bool) → (leg : ℕ) → Superblock
    → (old new : Option FileState) → Type 0
PassesBeside honest goes failed leg s old new =
    (IsTrue goes → SavesBeside honest (not failed) leg s old new)
    × (IsFalse goes → IsFalse failed × (new ≡ old))

-- the round has passed the first legs, and has touched no other file
pub record SavesTo (count : ℕ) (honest : Bool) (r : Round) (old new : List (Option FileState))
    : Type 0 where
  pub passed : (leg : ℕ) → leg < count → PassesBeside honest (has leg r.to) (has leg r.failed)
      leg r.superblock (file_of leg old) (file_of leg new)
  pub others : (leg : ℕ) → count ≤ leg → file_of leg new ≡ file_of leg old

-- Beside the first legs the last generation that was surely written is the superblock's, where it
-- was named or the round did not fail, and else as the superblock says.
abbrev pub IsSeenAfter : ℕ → (named : List Bool) → Round → (seen : List ℕ) → Type 0
IsSeenAfter count named r seen =
    (leg : ℕ) → leg < count → slice_index seen leg
    ≡ (if has leg named || (has leg r.to && not (has leg r.failed))
    then r.superblock.generation else slice_index r.superblock.seen leg)
