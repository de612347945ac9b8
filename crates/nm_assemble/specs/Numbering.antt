-- Legs' numbers, as their superblocks say them.
use Rattle.std.specs.Prelude.{◌≡◌, ◌<◌, ◌≤◌, ℕ, List, Option, None, Some, slice_index}
use Rattle.std.specs.Prelude.{slice_index_or}
use Rattle.nm_assemble.specs.declared.numbering.Misnumbered.{Misnumbered}
use Rattle.nm_assemble.specs.declared.numbering.Misnumbered.TheVariants.{Beyond, NoneLeft, Twice}

-- the number that a leg says, if it says one
abbrev pub number_of : ℕ → List (Option ℕ) → Option ℕ
number_of leg said = slice_index_or said leg None

-- the leg says this number
abbrev pub Says : (leg number : ℕ) → List (Option ℕ) → Type 0
Says leg number said = number_of leg said ≡ Some number

-- one of the first legs says this number
abbrev pub IsSaid : (count number : ℕ) → List (Option ℕ) → Type 0
IsSaid count number said = (leg : ℕ) × (leg < count) × Says leg number said

-- none of the legs after this one says this number
abbrev pub IsLast : (leg number : ℕ) → List (Option ℕ) → Type 0
IsLast leg number said = (other : ℕ) → leg < other → other < 8 → Says other number said → ⊥

-- each of the first legs that says a number says one below the count, and no later leg says it
abbrev pub AreApart : (legs count : ℕ) → List (Option ℕ) → Type 0
AreApart legs count said =
    (leg number : ℕ) → leg < legs → Says leg number said
    → (number < count) × IsLast leg number said

-- The numbers of the first legs: each has the one that it says, and one that says none has one
-- below the count that no leg says, in rising order.
pub record AreNumbers (legs count : ℕ) (said : List (Option ℕ)) (numbers : List ℕ) : Type 0 where
  pub own : (leg number : ℕ) → leg < legs → Says leg number said
      → slice_index numbers leg ≡ number
  pub below : (leg : ℕ) → leg < legs → number_of leg said ≡ None
      → slice_index numbers leg < count
  pub unsaid : (leg : ℕ) → leg < legs → number_of leg said ≡ None
      → IsSaid 8 (slice_index numbers leg) said → ⊥
  pub rising : (leg other : ℕ) → leg < other → other < legs → number_of leg said ≡ None
      → number_of other said ≡ None → slice_index numbers leg < slice_index numbers other

-- why there are none: two legs say one number, one says a number that is not below the count, or no
-- number is left from some one on
abbrev pub IsMisnumbered : (count : ℕ) → List (Option ℕ) → Misnumbered → Type 0
IsMisnumbered count said (Twice leg other number) =
    (leg < other) × (other < 8) × Says leg number said × Says other number said
IsMisnumbered count said (Beyond leg number) =
    (leg < 8) × (count ≤ number) × Says leg number said
IsMisnumbered count said NoneLeft =
    (from : ℕ) × ((number : ℕ) → from ≤ number → number < count → IsSaid 8 number said)
