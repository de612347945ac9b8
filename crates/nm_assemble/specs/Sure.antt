-- A start that is sure by what it found is sure in each stripe.
use Rattle.std.specs.Prelude.{◌≡◌, ◌<◌, ℕ, true, List, Option, Some}
use Rattle.nm_superblock.specs.declared.superblock.Superblock.{Superblock}
use Rattle.nm_assemble.specs.Saves.{IsOneOf, IsSure, ReadsAt, Save}
use Rattle.nm_assemble.specs.Start.{IsListed, IsNewest, IsSureStart, beside}

-- the superblock is what the save wrote of the stripe
pub record IsWrittenBy (stripe : ℕ) (s : Superblock) (e : Save) : Type 0 where
  pub generation : s.generation ≡ e.generation
  pub listed : (leg : ℕ) → e.listed leg ≡ true → (leg < 8) × IsListed leg stripe s

-- what was found beside a leg is no older than each save that surely reached its place
abbrev pub AreRead : List (Option Superblock) → List Save → Type 0
AreRead found saves =
    (leg : ℕ) (s : Superblock) → leg < 8 → beside leg found ≡ Some s
    → ReadsAt leg s.generation saves

-- So what the start goes by is a save after which none was done, in each stripe.
abbrev pub SureStartIsSure : Type 0
SureStartIsSure =
    (saves : List Save) (stripe : ℕ) (found : List (Option Superblock)) (newest : Superblock)
    (e : Save) → stripe < 64 → IsOneOf e saves → IsWrittenBy stripe newest e → AreRead found saves
    → IsNewest 8 newest found → IsSureStart newest found → IsSure e saves
