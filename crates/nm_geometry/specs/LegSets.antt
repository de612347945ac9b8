-- Sets of a mirror's legs: of each of eight legs whether it is in the set.
use Rattle.std.specs.Prelude.{◌≡◌, ◌↔◌, ◌<◌, ℕ, Bool, true, false, List, [], ◌∷◌, map, IsTrue}
use Rattle.std.specs.Prelude.{slice_index_or}
use Rattle.std.specs.Int.{bit_at}

-- The leg is in the set.
abbrev pub has : ℕ → List Bool → Bool
has leg set = slice_index_or set leg false

-- Of eight legs the set of those that this is true of.
abbrev pub legs_where : (ℕ → Bool) → List Bool
legs_where is = map is (0 ∷ 1 ∷ 2 ∷ 3 ∷ 4 ∷ 5 ∷ 6 ∷ 7 ∷ [])

-- Some leg is in the set.
abbrev pub HasSome : List Bool → Type 0
HasSome set = (leg : ℕ) × (leg < 8) × IsTrue (has leg set)

-- The byte has a bit for each leg of the set, the lowest for leg 0.
abbrev pub AreBitsOf : List Bool → ℕ → Type 0
AreBitsOf set bits = (leg : ℕ) → leg < 8 → IsTrue (has leg set) ↔ (bit_at bits leg ≡ 1)
