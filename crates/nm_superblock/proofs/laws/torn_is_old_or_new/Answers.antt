-- The slot that is torn is not the one with the superblock.
use Rattle.nm_superblock.proofs.Torn.{torn-old_or_new}
use Rattle.nm_superblock.proofs.laws.torn_is_old_or_new.Goals as goal

pub returns : goal.returns
returns c = torn-old_or_new
