use Rattle.std.proofs.Common.{ℕ, ◌<◌}
use Rattle.nm_assemble.specs.Masters.{MayOpenOn}
use Rattle.nm_assemble.proofs.masters.master_of.Given as goal

-- the stripe opens on no leg so far
abbrev pub invariant-legs : goal.invariant-legs
invariant-legs l = (leg : ℕ) → leg < l.leg → MayOpenOn leg l.stripe l.newest l.fresh → ⊥
