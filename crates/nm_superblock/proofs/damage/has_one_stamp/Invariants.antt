use Rattle.std.proofs.Common.{◌≡◌, ◌<◌, ℕ}
use Rattle.nm_superblock.specs.Damage.{HasHead}
use Rattle.nm_superblock.specs.Sectors.{stamp_of}
use Rattle.nm_superblock.proofs.damage.has_one_stamp.Given as goal

-- the heads so far are valid, and have the stamp of the first
abbrev pub invariant-sectors : goal.invariant-sectors
invariant-sectors l =
    (k : ℕ) → k < l.number → HasHead k l.slot × (stamp_of k l.slot ≡ stamp_of 0 l.slot)
