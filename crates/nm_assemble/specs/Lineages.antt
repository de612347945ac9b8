-- Which of two superblocks of a mirror came after the other.
use Rattle.std.specs.Prelude.{◌≡◌, ◌≢◌, ◌⊎◌, ◌<◌, ◌≤◌, ◌+◌, ℕ, slice_index}
use Rattle.nm_superblock.specs.declared.superblock.Superblock.{Superblock}

-- the lineage in which it was written
abbrev pub lineage_of : Superblock → ℕ
lineage_of s = slice_index s.lineages 0

-- the new one's lineage descends from the old one's, and the old one was found when its descendant
-- began
abbrev pub IsAncestor : (old new : Superblock) → Type 0
IsAncestor old new =
    (lineage_of old ≢ 0)
    × (i : ℕ) × (i < 3) × (slice_index new.lineages (i + 1) ≡ lineage_of old)
    × (old.generation ≤ slice_index new.forks i)

-- both are of one save: they differ in the leg beside which they are kept alone
abbrev pub IsOfSave : (old new : Superblock) → Type 0
IsOfSave old new = record old { leg = new.leg } ≡ new

-- the new one is of a later save of one lineage, or of the same save
abbrev pub GoesOnFrom : (old new : Superblock) → Type 0
GoesOnFrom old new =
    ((lineage_of old ≡ lineage_of new) × (old.generation < new.generation)) ⊎ IsOfSave old new

-- The new one came after the old one, or is of its save: nothing of the old one was left out. Two
-- of one lineage and generation that say different things went on apart.
abbrev pub LeadsTo : (old new : Superblock) → Type 0
LeadsTo old new = GoesOnFrom old new ⊎ IsAncestor old new
