-- How a leg starts in a stripe by an image: by a table whose first row that applies decides.
use Rattle.std.specs.Prelude.{◌≡◌, ◌<◌, ℕ, Bool, true, false}
use Rattle.std.specs.Int.{bit_at}
use Rattle.nm_superblock.specs.declared.superblock.Superblock.{Superblock}
use Rattle.nm_superblock.specs.Spans.{in_sync_of, partial_of}
use Rattle.nm_assemble.specs.declared.image_legs.LegStart.{LegStart}
use Rattle.nm_assemble.specs.declared.image_legs.LegStart.TheVariants.{Master, Missing, Partial}
use Rattle.nm_assemble.specs.declared.image_legs.LegStart.TheVariants.{Whole}

-- the image names the leg in the stripe
abbrev pub Names : (leg stripe : ℕ) → Superblock → Type 0
Names leg stripe image = bit_at (in_sync_of stripe image.sets) leg ≡ 1

-- the image names none of the first legs in the stripe
abbrev pub IsNameless : (count stripe : ℕ) → Superblock → Type 0
IsNameless count stripe image = (leg : ℕ) → leg < count → Names leg stripe image → ⊥

-- the leg is the first that the image names in the stripe
pub record IsFirstNamed (leg stripe : ℕ) (image : Superblock) : Type 0 where
  pub bound : leg < 8
  pub named : Names leg stripe image
  pub first : IsNameless leg stripe image

-- the image says of the leg that it lacks no more than marked spans in the stripe
abbrev pub Lacks : (leg stripe : ℕ) → Superblock → Type 0
Lacks leg stripe image = bit_at (partial_of stripe image.sets) leg ≡ 1

-- how a leg starts, whose file is here or not
abbrev pub IsLegStart : (leg stripe : ℕ) → Superblock → (is_here : Bool) → LegStart → Type 0
IsLegStart leg stripe image is_here Missing = is_here ≡ false
IsLegStart leg stripe image is_here Master = (is_here ≡ true) × Names leg stripe image
IsLegStart leg stripe image is_here Partial =
    (is_here ≡ true) × (Names leg stripe image → ⊥) × Lacks leg stripe image
IsLegStart leg stripe image is_here Whole =
    (is_here ≡ true) × (Names leg stripe image → ⊥) × (Lacks leg stripe image → ⊥)
