use Rattle.std.proofs.Common.{ℕ, ◌<◌}
use Rattle.nm_assemble.specs.Start.{IsListed}
use Rattle.nm_assemble.proofs.missing.is_listed_somewhere.Given as goal

-- no stripe so far lists the leg
abbrev pub invariant-stripes : goal.invariant-stripes
invariant-stripes l = (k : ℕ) → k < l.stripe → IsListed l.leg k l.superblock → ⊥
