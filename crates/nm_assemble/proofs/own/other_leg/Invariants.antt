use Rattle.std.proofs.Common.{ℕ, ◌<◌}
use Rattle.nm_assemble.specs.Own.{IsOtherLegs}
use Rattle.nm_assemble.proofs.own.other_leg.Given as goal

-- the file was none of the other legs so far
abbrev pub invariant-others : goal.invariant-others
invariant-others l =
    (other : ℕ) → other < l.other → IsOtherLegs l.leg other l.newest l.legs → ⊥
