-- Blocks of one leg out of a list of legs.
use Rattle.std.specs.Prelude.{◌≡◌, ◌+◌, ◌≤◌, ℕ, List, length, Some, slice_get}
use Rattle.nm_leg.specs.Leg.{Leg}

-- the leg at this place has so many blocks from this one on
abbrev pub HasBlocks : {L : Type 0} → (L → Leg) → List L → ℕ → ℕ → ℕ → Type 0
HasBlocks {L} model legs place at count =
    (leg : L) → slice_get legs place ≡ Some leg → at + count ≤ length (model leg).contents
