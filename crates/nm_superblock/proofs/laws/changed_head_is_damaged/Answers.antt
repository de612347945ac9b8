-- The sector has no valid head, and is not blank.
use Rattle.nm_superblock.proofs.Checks.{changed-damaged}
use Rattle.nm_superblock.proofs.laws.changed_head_is_damaged.Goals as goal

pub returns : goal.returns
returns c = changed-damaged
