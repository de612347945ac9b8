use Rattle.std.proofs.Common.{◌≡◌, ◌<◌, ℕ}
use Rattle.nm_superblock.specs.Spans.{in_sync_of}
use Rattle.nm_saves.proofs.named.is_nameless.Given as goal

-- in each stripe so far a leg is in sync
abbrev pub invariant-stripes : goal.invariant-stripes
invariant-stripes l = (k : ℕ) → k < l.stripe → k < l.stripes → in_sync_of k l.sets ≡ 0 → ⊥
