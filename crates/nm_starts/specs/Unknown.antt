-- Which legs' files a start that nobody forced does not take.
use Rattle.std.specs.Prelude.{◌≡◌, ◌<◌, ◌↔◌, ℕ, Bool, List, IsTrue, Option, None}
use Rattle.nm_assemble.specs.Start.{beside}
use Rattle.nm_geometry.specs.LegSets.{has}
use Rattle.nm_superblock.specs.declared.superblock.Superblock.{Superblock}

-- the newest superblock knows the leg, and none was found of it
abbrev pub IsUnknown : Superblock → ℕ → Option Superblock → Type 0
IsUnknown newest leg found = (leg < newest.legs) × (found ≡ None)

-- of the first legs, the set has those that are so
abbrev pub AreUnknown : ℕ → Superblock → List (Option Superblock) → List Bool → Type 0
AreUnknown count newest found legs =
    (leg : ℕ) → leg < count
    → IsTrue (has leg legs) ↔ IsUnknown newest leg (beside leg found)
