use Rattle.std.proofs.Common.{ℕ, ◌<◌, IsTrue}
use Rattle.nm_geometry.specs.LegSets.{has}
use Rattle.nm_geometry.proofs.leg_set.LegSet.has_some.Given as goal

-- no leg so far is in it
abbrev pub invariant-legs : goal.invariant-legs
invariant-legs l = (leg : ℕ) → leg < l.leg → IsTrue (has leg l.self) → ⊥
