use Rattle.std.proofs.Common.{◌≡◌, ◌<◌, ◌↔◌, ℕ, IsTrue, length}
use Rattle.std.specs.Int.{bit_at}
use Rattle.nm_geometry.specs.LegSets.{has}
use Rattle.nm_geometry.proofs.leg_set.LegSet.of_bits.Given as goal

-- the legs so far are told
abbrev pub invariant-legs : goal.invariant-legs
invariant-legs l = (length l.legs ≡ 8)
    × ((leg : ℕ) → leg < l.leg → IsTrue (has leg l.legs) ↔ (bit_at l.bits leg ≡ 1))
