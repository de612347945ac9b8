use Rattle.std.proofs.Common.{◌≡◌, ◌<◌, ◌≤◌, ◌+◌, ℕ, slice_index}
use Rattle.nm_assemble.specs.Lineages.{lineage_of}
use Rattle.nm_assemble.proofs.lineages.is_ancestor.Given as goal

-- none of the ancestors so far is the old one's lineage, with the old one found at the fork
abbrev pub invariant-lineages : goal.invariant-lineages
invariant-lineages l =
    (k : ℕ) → k < l.i → slice_index l.new.lineages (k + 1) ≡ lineage_of l.old
    → l.old.generation ≤ slice_index l.new.forks k → ⊥
