use Rattle.std.proofs.Common.{ℕ, ◌<◌}
use Rattle.nm_assemble.specs.Numbering.{Says}
use Rattle.nm_assemble.proofs.numbering.second_of.Given as goal

-- none of the later legs so far says it
abbrev pub invariant-others : goal.invariant-others
invariant-others l =
    (other : ℕ) → l.leg < other → other < l.other → Says other l.number l.said → ⊥
