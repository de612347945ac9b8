-- Which superblocks of a mirror's legs count that are moved from an old place to a new one: each
-- place may have one of each leg.
use Rattle.std.specs.Prelude.{◌≡◌, ◌⊎◌, ◌<◌, ◌≤◌, ◌||◌, ℕ, List, Option, None, Some}
use Rattle.std.specs.Prelude.{if◌then◌else◌, nat_lt, slice_index}
use Rattle.nm_assemble.specs.Start.{IsEmpty, IsNewest, beside}
use Rattle.nm_geometry.specs.LegSets.{has}
use Rattle.nm_starts.specs.declared.two_places.PlaceFound.{PlaceFound}
use Rattle.nm_superblock.specs.Slots.{newer_of}
use Rattle.nm_superblock.specs.declared.superblock.Superblock.{Superblock}

-- the later superblock of a leg: none where one of its two files is damaged, which may have held
-- the later one
abbrev pub later_of : ℕ → (new old : PlaceFound) → Option Superblock
later_of leg new old = if has leg new.damaged || has leg old.damaged then None
    else newer_of (beside leg new.found) (beside leg old.found)

-- of the first legs these are the later ones
abbrev pub AreLater : ℕ → (new old : PlaceFound) → List (Option Superblock) → Type 0
AreLater count new old later =
    (leg : ℕ) → leg < count → beside leg later ≡ later_of leg new old

-- the superblock, where it is no older than the last one that was surely written of the leg: else
-- that one is in neither place
abbrev pub last_of : (newest : Superblock) → ℕ → Option Superblock → Option Superblock
last_of newest leg None = None
last_of newest leg (Some s) =
    if nat_lt s.generation (slice_index newest.seen leg) then None else Some s

-- of the first legs these are those
abbrev pub AreLast : ℕ → (newest : Superblock) → (later last : List (Option Superblock)) → Type 0
AreLast count newest later last =
    (leg : ℕ) → leg < count → beside leg last ≡ last_of newest leg (beside leg later)

-- what counts of both places
abbrev pub Counts : (new old : PlaceFound) → List (Option Superblock) → Type 0
Counts new old counted = (later : List (Option Superblock)) × AreLater 8 new old later
    × ((IsEmpty 8 later × (counted ≡ later))
    ⊎ ((newest : Superblock) × IsNewest 8 newest later × AreLast 8 newest later counted))

-- the earlier superblock of a leg, where both places have one: it is left there
abbrev pub earlier_of : (new old : Option Superblock) → Option Superblock
earlier_of None old = None
earlier_of (Some a) None = None
earlier_of (Some a) (Some b) = if nat_lt a.generation b.generation then Some a else Some b

-- of the first legs these are the earlier ones
abbrev pub AreEarlier : ℕ → (new old earlier : List (Option Superblock)) → Type 0
AreEarlier count new old earlier =
    (leg : ℕ) → leg < count → beside leg earlier ≡ earlier_of (beside leg new) (beside leg old)

-- the new place has a superblock of the leg that is no older than this one
abbrev pub IsMoved : (generation : ℕ) → (new : Option Superblock) → Type 0
IsMoved generation None = ⊥
IsMoved generation (Some new) = generation ≤ new.generation

-- the superblock of the old place that is moved as it is: it counts, and is not in the new one
abbrev pub carried_of : (counted new : Option Superblock) → Option Superblock
carried_of None new = None
carried_of (Some s) None = Some s
carried_of (Some s) (Some n) = if nat_lt n.generation s.generation then Some s else None

-- of the first legs these are moved as they are
abbrev pub AreCarried : ℕ → (counted new carried : List (Option Superblock)) → Type 0
AreCarried count counted new carried =
    (leg : ℕ) → leg < count
    → beside leg carried ≡ carried_of (beside leg counted) (beside leg new)
