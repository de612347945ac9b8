-- A start that finds all legs changed: it compares them, and goes on by them as they were.
use Rattle.std.specs.Prelude.{◌≡◌, ◌≢◌, ◌⊎◌, None}
use Rattle.nm_assemble.specs.Changes.{AreAllChanged}
use Rattle.nm_assemble.specs.Start.{IsEmpty, IsNewest}
use Rattle.nm_commands.specs.declared.opening_settings.OpeningSettings.{OpeningSettings}
use Rattle.nm_starts.specs.declared.superblock_choice.FoundLegs.{FoundLegs}
use Rattle.nm_superblock.specs.declared.superblock.Superblock.{Superblock}

-- a leg is forced on the start, or no superblock was found, or not all legs were changed
abbrev pub IsOtherStart : OpeningSettings → FoundLegs → Type 0
IsOtherStart s seen =
    (s.force_master ≢ None) ⊎ (IsEmpty 8 seen.found
    ⊎ ((newest : Superblock) × IsNewest 8 newest seen.found
    × (AreAllChanged newest seen.legs → ⊥)))

-- what is found of the legs, with the times that the superblock has
abbrev pub with_times : FoundLegs → Superblock → FoundLegs
with_times seen newest =
    record seen { legs = record seen.legs { changed = newest.changed } }

-- all legs were changed by the newest superblock, and no leg is forced on the start: then it goes
-- by the legs as they were when the mirror ended
abbrev pub IsAsItWas : OpeningSettings → (seen own : FoundLegs) → Type 0
IsAsItWas s seen own =
    (s.force_master ≡ None)
    × ((newest : Superblock) × IsNewest 8 newest seen.found × AreAllChanged newest seen.legs
    × (own ≡ with_times seen newest))
