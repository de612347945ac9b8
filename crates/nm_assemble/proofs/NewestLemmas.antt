-- The newest superblock of the first legs is that of one leg more, or stays.
use Rattle.std.proofs.Common.{ℕ, List, Option, None, Some}
use Rattle.nm_superblock.specs.declared.superblock.Superblock.{Superblock}
use Rattle.nm_assemble.specs.Start.{IsEmpty, IsNewest}

-- the newest of the first legs' superblocks, and none where none was found
abbrev pub IsNewestOf : ℕ → List (Option Superblock) → Option Superblock → Type 0
IsNewestOf count found (Some s) = IsNewest count s found
IsNewestOf count found None = IsEmpty count found
