use Rattle.std.proofs.Common.{◌≡◌, ◌<◌, ℕ}
use Rattle.std.specs.Int.{bit_at}
use Rattle.nm_superblock.specs.Spans.{in_sync_of}
use Rattle.nm_saves.proofs.named.is_named.Given as goal

-- the leg is in sync in no stripe so far
abbrev pub invariant-stripes : goal.invariant-stripes
invariant-stripes l = (k : ℕ) → k < l.stripe → bit_at (in_sync_of k l.sets) l.leg ≡ 1 → ⊥
