use Rattle.std.proofs.Common.{ℕ, ◌<◌}
use Rattle.nm_assemble.specs.Image.{IsKnown}
use Rattle.nm_starts.proofs.renewed_ids.is_known.Given as goal

-- no stripe so far knows the leg
abbrev pub invariant-stripes : goal.invariant-stripes
invariant-stripes l = (k : ℕ) → k < l.stripe → IsKnown l.image k l.leg → ⊥
