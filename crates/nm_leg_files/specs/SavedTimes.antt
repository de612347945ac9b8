-- The times of legs' last changes that a save records.
use Rattle.std.specs.Prelude.{◌≡◌, ◌<◌, ℕ, Bool, List, nat_eq, if◌then◌else◌, ◌&&◌}
use Rattle.std.specs.Prelude.{slice_index}
use Rattle.nm_geometry.specs.LegSets.{has}
use Rattle.nm_superblock.specs.declared.leg_identities.LegIdentities.{LegIdentities}
use Rattle.nm_superblock.specs.Identities.{IsKnown}

-- a leg's time, where its file's identity is known, and else none
pub record IsKnownTime (leg : ℕ) (times : List ℕ) (identities : LegIdentities) (time : ℕ)
    : Type 0 where
  pub known : IsKnown leg identities → time ≡ slice_index times leg
  pub unknown : (IsKnown leg identities → ⊥) → time ≡ 0

-- so are those of the first legs
abbrev pub AreKnownTimes : ℕ → (times : List ℕ) → LegIdentities → (known : List ℕ) → Type 0
AreKnownTimes count times identities known =
    (leg : ℕ) → leg < count → IsKnownTime leg times identities (slice_index known leg)

-- The times of the first legs that a save records: those that were read at the end; else that of a
-- leg that is out stays as it was recorded last, and others have none.
abbrev pub AreSavedTimes : ℕ → (ended last : List ℕ) → (out : List Bool) → List ℕ → Type 0
AreSavedTimes count ended last out saved =
    (leg : ℕ) → leg < count → slice_index saved leg
    ≡ (if nat_eq (slice_index ended leg) 0 && has leg out
    then slice_index last leg else slice_index ended leg)
