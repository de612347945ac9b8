use Rattle.nm_superblock.specs.Slots.{IsHighestStamp}
use Rattle.nm_superblock.proofs.place.highest_stamp.Given as goal

-- it is the highest of the sectors so far
abbrev pub invariant-sectors : goal.invariant-sectors
invariant-sectors l = IsHighestStamp l.number l.slot l.highest
