-- The ids of legs that a start draws anew.
use Rattle.std.specs.Prelude.{◌≡◌, ◌<◌, ◌↔◌, ℕ, Bool, true, false, List, IsTrue, nat_lt}
use Rattle.std.specs.Prelude.{slice_index}
use Rattle.nm_assemble.specs.Image.{IsKnown}
use Rattle.nm_geometry.specs.LegSets.{has}
use Rattle.nm_superblock.specs.declared.superblock.Superblock.{Superblock}

-- the image knows the leg in one of its first stripes
abbrev pub Knows : (count leg : ℕ) → Superblock → Type 0
Knows count leg image = (stripe : ℕ) × (stripe < count) × IsKnown image stripe leg

-- the leg is here, and the image knows it in no stripe
pub record IsUnknownHere (image : Superblock) (here : List Bool) (leg : ℕ) : Type 0 where
  pub is_here : IsTrue (has leg here)
  pub unknown : Knows 64 leg image → ⊥

-- of the first legs, the set has those that are so
abbrev pub AreUnknownHere : (count : ℕ) → Superblock → (here legs : List Bool) → Type 0
AreUnknownHere count image here legs =
    (leg : ℕ) → leg < count → IsTrue (has leg legs) ↔ IsUnknownHere image here leg

-- an id that is renewed is not 0, and another stays
abbrev pub IsRenewed : Bool → (old new : ℕ) → Type 0
IsRenewed true old new = 0 < new
IsRenewed false old new = new ≡ old

-- of the first legs, those of the set have new ids, and the others have theirs
abbrev pub AreRenewed : (count : ℕ) → (legs : List Bool) → (old new : List ℕ) → Type 0
AreRenewed count legs old new =
    (leg : ℕ) → leg < count
    → IsRenewed (has leg legs) (slice_index old leg) (slice_index new leg)

-- of the first legs, so many have an id, which is not 0, and the others have 0
abbrev pub AreFirstIds : (count legs : ℕ) → (ids : List ℕ) → Type 0
AreFirstIds count legs ids =
    (leg : ℕ) → leg < count → IsRenewed (nat_lt leg legs) 0 (slice_index ids leg)
