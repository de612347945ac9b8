use Rattle.std.proofs.Common.{ℕ, ◌<◌}
use Rattle.nm_assemble.specs.Numbering.{Says}
use Rattle.nm_assemble.proofs.numbering.is_said.Given as goal

-- none of the legs so far says it
abbrev pub invariant-legs : goal.invariant-legs
invariant-legs l = (other : ℕ) → other < l.leg → Says other l.number l.said → ⊥
