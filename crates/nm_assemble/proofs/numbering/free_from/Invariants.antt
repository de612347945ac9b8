use Rattle.std.proofs.Common.{ℕ, ◌≤◌, ◌<◌}
use Rattle.nm_assemble.specs.Numbering.{IsSaid}
use Rattle.nm_assemble.proofs.numbering.free_from.Given as goal

-- each number so far is said
abbrev pub invariant-numbers : goal.invariant-numbers
invariant-numbers l =
    (other : ℕ) → l.from ≤ other → other < l.number → IsSaid 8 other l.said
