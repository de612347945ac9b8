use Rattle.std.proofs.Common.{◌<◌, ℕ}
use Rattle.nm_superblock.specs.Damage.{IsBad}
use Rattle.nm_superblock.proofs.damage.has_bad_sector.Given as goal

-- none of the sectors so far is bad
abbrev pub invariant-sectors : goal.invariant-sectors
invariant-sectors l = (k : ℕ) → k < l.number → IsBad k l.slot → ⊥
