-- What is left of a slot has sectors of both, and so neither one stamp nor a bad sector.
use Rattle.nm_superblock.proofs.Undamaged.{torn-undamaged}
use Rattle.nm_superblock.proofs.laws.torn_is_undamaged.Goals as goal

pub returns : goal.returns
returns c = torn-undamaged
