-- Stamp and payload are read back.
use Rattle.nm_superblock.proofs.Unique.{slots-are_read}
use Rattle.nm_superblock.proofs.laws.slots_are_read.Goals as goal

pub returns : goal.returns
returns c = slots-are_read
