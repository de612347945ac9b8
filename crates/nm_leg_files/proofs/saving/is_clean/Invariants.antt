use Rattle.std.proofs.Common.{ℕ, ◌<◌}
use Rattle.nm_superblock.specs.Spans.{in_sync_of}
use Rattle.nm_leg_files.specs.Saving.{HasAll}
use Rattle.nm_leg_files.proofs.saving.is_clean.Given as goal

-- each leg is in sync in each stripe so far
abbrev pub invariant-stripes : goal.invariant-stripes
invariant-stripes l =
    (stripe : ℕ) → stripe < l.stripe → HasAll l.legs (in_sync_of stripe l.sets)
