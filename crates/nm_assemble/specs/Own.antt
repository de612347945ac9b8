-- Which legs' files are those that the newest superblock is of, by their identities, and are as
-- they were, by the times of their last changes.
use Rattle.std.specs.Prelude.{◌≡◌, ◌⊎◌, ◌<◌, ◌≤◌, ◌↔◌, ℕ, Bool, false, List}
use Rattle.std.specs.Prelude.{slice_index, IsTrue}
use Rattle.std.specs.Int.{bit_at}
use Rattle.nm_geometry.specs.LegSets.{has}
use Rattle.nm_superblock.specs.declared.leg_identities.LegIdentities.{LegIdentities}
use Rattle.nm_superblock.specs.declared.superblock.Superblock.{Superblock}
use Rattle.nm_superblock.specs.Identities.{IsKnown, IsSameIdentity}
use Rattle.nm_superblock.specs.Spans.{in_sync_of}
use Rattle.nm_assemble.specs.declared.own.LegsHere.{LegsHere}

-- the leg's file was changed last at the time that the superblock has, or it has none
abbrev pub HasItsTime : Superblock → LegsHere → (leg : ℕ) → Type 0
HasItsTime newest legs leg =
    (slice_index newest.changed leg ≡ 0)
    ⊎ (slice_index legs.changed leg ≡ slice_index newest.changed leg)

-- the superblock is of the leg's file as it is: it tells of none, as one of version 1 does and one
-- that has no such leg, or of this one, which nothing has changed since, or a person said that the
-- leg was moved to it; an unknown identity is the same as an unknown one alone
abbrev pub IsOfFile : Superblock → LegsHere → (leg : ℕ) → Type 0
IsOfFile newest legs leg =
    ((newest.version ≡ 1) ⊎ (newest.legs ≤ leg)) ⊎ (IsTrue (has leg legs.moved)
    ⊎ (IsSameIdentity leg legs.identities leg newest.identities × HasItsTime newest legs leg))

-- a leg's file is its own: it is here, and the superblock is of it
pub record IsOwn (newest : Superblock) (legs : LegsHere) (leg : ℕ) : Type 0 where
  pub is_here : IsTrue (has leg legs.here)
  pub file : IsOfFile newest legs leg

-- of the first legs, the set has those whose files are
abbrev pub AreOwn : ℕ → Superblock → LegsHere → List Bool → Type 0
AreOwn count newest legs own =
    (leg : ℕ) → leg < count → IsTrue (has leg own) ↔ IsOwn newest legs leg

-- a leg's file is here, and is not the one that it was, but the one that the other leg was
pub record IsOtherLegs (leg other : ℕ) (newest : Superblock) (legs : LegsHere) : Type 0 where
  pub is_here : IsTrue (has leg legs.here)
  pub known : IsKnown leg legs.identities
  pub unlike : IsSameIdentity leg legs.identities leg newest.identities → ⊥
  pub same : IsSameIdentity leg legs.identities other newest.identities

-- none of the first legs has another leg's file
abbrev pub NoneMixed : ℕ → Superblock → LegsHere → Type 0
NoneMixed count newest legs =
    (leg other : ℕ) → leg < count → other < 8 → IsOtherLegs leg other newest legs → ⊥

-- this leg is the first that has
pub record IsFirstMixed (leg other : ℕ) (newest : Superblock) (legs : LegsHere) : Type 0 where
  pub bound : leg < 8
  pub other_bound : other < 8
  pub mixed : IsOtherLegs leg other newest legs
  pub others : NoneMixed leg newest legs

-- the leg is in sync in the stripe by the superblock, and the file that is here is not its own
pub record IsAnother (leg stripe : ℕ) (newest : Superblock) (legs : LegsHere) : Type 0 where
  pub in_sync : bit_at (in_sync_of stripe newest.sets) leg ≡ 1
  pub is_here : IsTrue (has leg legs.here)
  pub other : IsOwn newest legs leg → ⊥

-- none of the first legs is such a one
abbrev pub NoneAnother : (count stripe : ℕ) → Superblock → LegsHere → Type 0
NoneAnother count stripe newest legs =
    (leg : ℕ) → leg < count → IsAnother leg stripe newest legs → ⊥

-- this one is the first
pub record IsFirstAnother (leg stripe : ℕ) (newest : Superblock) (legs : LegsHere)
    : Type 0 where
  pub bound : leg < 8
  pub another : IsAnother leg stripe newest legs
  pub others : NoneAnother leg stripe newest legs

-- of the first legs, those that are their own have their files' identities, and others the old ones
abbrev pub Records : ℕ → (own : List Bool) → (here old new : LegIdentities) → Type 0
Records count own here old new =
    (leg : ℕ) → leg < count
    → (IsTrue (has leg own) → IsSameIdentity leg new leg here)
    × (has leg own ≡ false → IsSameIdentity leg new leg old)
