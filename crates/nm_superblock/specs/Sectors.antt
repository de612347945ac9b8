-- The sectors of a slot, as they are read.
use Rattle.std.specs.Prelude.{◌≡◌, ℕ, zero, suc, ◌*◌, ◌+◌, List, [], ◌∷◌, ◌++◌, take, drop}
use Rattle.byteorder.specs.Endian.{big_number}

-- a sector, 512 bytes
abbrev pub sector_of : (number : ℕ) → List ℕ → List ℕ
sector_of number slot = take 512 (drop (512 * number) slot)

-- what stands in the first sectors after their headers
unfoldable pub pieces_of : (count : ℕ) → List ℕ → List ℕ
pieces_of zero slot = []
pieces_of (suc number) slot = pieces_of number slot ++ drop 16 (sector_of number slot)

-- the stamp in a sector
abbrev pub stamp_of : (number : ℕ) → List ℕ → ℕ
stamp_of number slot = big_number 8 (drop (512 * number + 8) slot)

-- a sector begins as each superblock's do, of whatever version
abbrev pub HasMagic : (number : ℕ) → List ℕ → Type 0
HasMagic number slot = take 4 (sector_of number slot) ≡ 0x4e ∷ 0x4d ∷ 0x52 ∷ 0x53 ∷ []
