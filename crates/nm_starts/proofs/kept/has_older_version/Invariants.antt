use Rattle.std.proofs.Common.{ℕ, ◌<◌, None, slice_index_or}
use Rattle.nm_starts.specs.Kept.{IsOlder}
use Rattle.nm_starts.proofs.kept.has_older_version.Given as goal

-- no leg's so far is older
abbrev pub invariant-legs : goal.invariant-legs
invariant-legs l = (leg : ℕ) → leg < l.leg → IsOlder (slice_index_or l.found leg None) → ⊥
