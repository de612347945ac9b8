-- Files of legs that something else has changed since the mirror ended, by the times of their last
-- changes.
use Rattle.std.specs.Prelude.{◌≡◌, ◌<◌, ◌↔◌, ℕ, Bool, List, if◌then◌else◌}
use Rattle.std.specs.Prelude.{slice_index, IsTrue}
use Rattle.nm_geometry.specs.LegSets.{has}
use Rattle.nm_superblock.specs.declared.superblock.Superblock.{Superblock}
use Rattle.nm_superblock.specs.Identities.{IsSameIdentity}
use Rattle.nm_assemble.specs.Own.{IsOwn}
use Rattle.nm_assemble.specs.declared.own.LegsHere.{LegsHere}

-- a leg's file was changed: it is the one that the superblock is of, and no longer its own
pub record WasChanged (newest : Superblock) (legs : LegsHere) (leg : ℕ) : Type 0 where
  pub is_here : IsTrue (has leg legs.here)
  pub same : IsSameIdentity leg legs.identities leg newest.identities
  pub other : IsOwn newest legs leg → ⊥

-- of the first legs, the set has those whose files were
abbrev pub WereChanged : ℕ → Superblock → LegsHere → List Bool → Type 0
WereChanged count newest legs changed =
    (leg : ℕ) → leg < count → IsTrue (has leg changed) ↔ WasChanged newest legs leg

-- so were those of the first legs that the superblock has
abbrev pub AreChanged : ℕ → Superblock → LegsHere → Type 0
AreChanged count newest legs =
    (leg : ℕ) → leg < count → leg < newest.legs → WasChanged newest legs leg

-- all were changed: the mirror ended with all legs in sync, and each of them was changed since
pub record AreAllChanged (newest : Superblock) (legs : LegsHere) : Type 0 where
  pub clean : IsTrue newest.clean
  pub each : AreChanged 8 newest legs

-- the times of the first legs that a start records: none of legs that it takes, since they are
-- written to from then on; those of others stay
abbrev pub KeepsTimes : ℕ → (own : List Bool) → (old new : List ℕ) → Type 0
KeepsTimes count own old new =
    (leg : ℕ) → leg < count
    → slice_index new leg ≡ (if has leg own then 0 else slice_index old leg)
