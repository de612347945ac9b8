-- On which leg a stripe opens.
use Rattle.std.specs.Prelude.{◌≡◌, ◌<◌, ℕ, Bool, List, IsTrue}
use Rattle.std.specs.Int.{bit_at}
use Rattle.nm_geometry.specs.LegSets.{has}
use Rattle.nm_superblock.specs.declared.superblock.Superblock.{Superblock}
use Rattle.nm_superblock.specs.Spans.{in_sync_of}

-- the leg is in sync in the stripe by the superblock, and fresh
abbrev pub MayOpenOn : (leg stripe : ℕ) → Superblock → List Bool → Type 0
MayOpenOn leg stripe newest fresh =
    (bit_at (in_sync_of stripe newest.sets) leg ≡ 1) × IsTrue (has leg fresh)

-- it is the first such leg
pub record IsMaster (leg stripe : ℕ) (newest : Superblock) (fresh : List Bool) : Type 0 where
  pub bound : leg < 8
  pub opens : MayOpenOn leg stripe newest fresh
  pub first : (other : ℕ) → other < leg → MayOpenOn other stripe newest fresh → ⊥

-- there is none
abbrev pub IsClosed : (stripe : ℕ) → Superblock → List Bool → Type 0
IsClosed stripe newest fresh = (leg : ℕ) → leg < 8 → MayOpenOn leg stripe newest fresh → ⊥

-- of the mirror's first stripes each has one
abbrev pub AllOpen : ℕ → Superblock → List Bool → Type 0
AllOpen count newest fresh =
    (stripe : ℕ) → stripe < count → stripe < newest.stripes
    → (leg : ℕ) × IsMaster leg stripe newest fresh

-- this one is the first that has none
pub record IsFirstClosed (stripe : ℕ) (newest : Superblock) (fresh : List Bool) : Type 0 where
  pub bound : stripe < 64
  pub inside : stripe < newest.stripes
  pub closed : IsClosed stripe newest fresh
  pub others : AllOpen stripe newest fresh
