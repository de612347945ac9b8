use Rattle.std.proofs.Common.{ℕ, ◌<◌, IsFalse}
use Rattle.nm_geometry.specs.LegSets.{has}
use Rattle.nm_leg_files.proofs.saving.after_failure.Given as goal

-- no file so far failed
abbrev pub invariant-legs : goal.invariant-legs
invariant-legs l = (other : ℕ) → other < l.leg → IsFalse (has other l.failed)
