-- What a start decides from the superblocks that it found, one a leg at most.
use Rattle.std.specs.Prelude.{◌≡◌, ◌≢◌, ◌⊎◌, ◌<◌, ◌≤◌, ◌↔◌, ℕ, Bool, List, slice_index}
use Rattle.std.specs.Prelude.{slice_index_or, IsTrue, Option, None, Some}
use Rattle.std.specs.Int.{bit_at}
use Rattle.nm_geometry.specs.LegSets.{has}
use Rattle.nm_superblock.specs.declared.superblock.Superblock.{Superblock}
use Rattle.nm_superblock.specs.Spans.{candidates_of, in_sync_of}
use Rattle.nm_assemble.specs.declared.misfit.Misfit.{Misfit}
use Rattle.nm_assemble.specs.declared.misfit.Misfit.TheVariants.{Apart, OtherLeg, OtherMirror}
use Rattle.nm_assemble.specs.Lineages.{LeadsTo, lineage_of}
use Rattle.nm_assemble.specs.Own.{IsOwn}
use Rattle.nm_assemble.specs.declared.own.LegsHere.{LegsHere}

-- the superblock that was found beside a leg
abbrev pub beside : ℕ → List (Option Superblock) → Option Superblock
beside leg found = slice_index_or found leg None

-- this superblock was found beside one of the first legs, and none with a greater generation
pub record IsNewest (count : ℕ) (s : Superblock) (found : List (Option Superblock)) : Type 0 where
  pub stands : (leg : ℕ) × (leg < count) × (beside leg found ≡ Some s)
  pub greatest : (leg : ℕ) (t : Superblock) → leg < count → beside leg found ≡ Some t
      → t.generation ≤ s.generation

-- none was found beside the first legs
abbrev pub IsEmpty : ℕ → List (Option Superblock) → Type 0
IsEmpty count found = (leg : ℕ) → leg < count → beside leg found ≡ None

-- both are of one mirror, and of one shape
pub record IsOfMirror (s newest : Superblock) : Type 0 where
  pub mirror : s.mirror ≡ newest.mirror
  pub blocks : s.blocks ≡ newest.blocks
  pub region_blocks : s.region_blocks ≡ newest.region_blocks
  pub span_regions : s.span_regions ≡ newest.span_regions
  pub stripes : s.stripes ≡ newest.stripes
  pub legs : s.legs ≡ newest.legs

-- why a leg's superblock does not go with the newest one: the first row that applies; and that it
-- does
abbrev pub IsMisfit : ℕ → (s newest : Superblock) → Option Misfit → Type 0
IsMisfit leg s newest (Some OtherMirror) = IsOfMirror s newest → ⊥
IsMisfit leg s newest (Some OtherLeg) = IsOfMirror s newest × (s.leg ≢ leg)
IsMisfit leg s newest (Some Apart) =
    IsOfMirror s newest × (s.leg ≡ leg) × (LeadsTo s newest → ⊥)
IsMisfit leg s newest None = IsOfMirror s newest × (s.leg ≡ leg) × LeadsTo s newest

-- each superblock found beside the first legs goes with the newest one
abbrev pub AllFit : ℕ → List (Option Superblock) → (newest : Superblock) → Type 0
AllFit count found newest =
    (leg : ℕ) (s : Superblock) → leg < count → beside leg found ≡ Some s
    → IsMisfit leg s newest None

-- a superblock was found beside the leg, and does not go with the newest one: why
abbrev pub IsMisfitting : ℕ → Option Superblock → (newest : Superblock) → Misfit → Type 0
IsMisfitting leg found newest why =
    (s : Superblock) × (found ≡ Some s) × IsMisfit leg s newest (Some why)

-- this leg's superblock is the first that does not
pub record IsFirstMisfit (leg : ℕ) (why : Misfit) (found : List (Option Superblock))
    (newest : Superblock) : Type 0 where
  pub bound : leg < 8
  pub misfit : IsMisfitting leg (beside leg found) newest why
  pub others : AllFit leg found newest

-- the superblock lists the leg in the stripe: it is in sync there, or about to be
abbrev pub IsListed : (leg stripe : ℕ) → Superblock → Type 0
IsListed leg stripe s =
    (bit_at (in_sync_of stripe s.sets) leg ≡ 1) ⊎ (bit_at (candidates_of stripe s.sets) leg ≡ 1)

-- a superblock was found beside each of the first legs that is listed in some stripe
abbrev pub AreSeen : ℕ → Superblock → List (Option Superblock) → Type 0
AreSeen count s found =
    (leg stripe : ℕ) → leg < count → stripe < 64 → IsListed leg stripe s → beside leg found ≢ None

-- the start is sure: one was found beside each leg that is listed
abbrev pub IsSureStart : Superblock → List (Option Superblock) → Type 0
IsSureStart s found = AreSeen 8 s found

-- this leg is the first that may have a newer superblock: it is listed, and none was found
-- beside it
pub record IsMissing (leg : ℕ) (s : Superblock) (found : List (Option Superblock)) : Type 0 where
  pub bound : leg < 8
  pub unfound : beside leg found ≡ None
  pub listed : (stripe : ℕ) × (stripe < 64) × IsListed leg stripe s
  pub others : AreSeen leg s found

-- the superblock beside a leg is of the newest one's lineage, of the leg that the newest one has
-- under that number, and no older than the last that was surely written there
pub record IsFreshAs (newest s : Superblock) (leg : ℕ) : Type 0 where
  pub lineage : lineage_of s ≡ lineage_of newest
  pub same : slice_index s.leg_ids leg ≡ slice_index newest.leg_ids leg
  pub seen : slice_index newest.seen leg ≤ s.generation

-- a leg is fresh: its file is its own and holds what was written, and its superblock is as above
abbrev pub IsFresh : (newest : Superblock) → LegsHere → ℕ → Option Superblock → Type 0
IsFresh newest legs leg None = ⊥
IsFresh newest legs leg (Some s) =
    IsOwn newest legs leg × IsTrue (has leg legs.settled) × IsFreshAs newest s leg

-- of the first legs, the set has those that are fresh
abbrev pub AreFresh : ℕ → Superblock → List (Option Superblock) → LegsHere → List Bool → Type 0
AreFresh count newest found legs fresh =
    (leg : ℕ) → leg < count
    → IsTrue (has leg fresh) ↔ IsFresh newest legs leg (beside leg found)
