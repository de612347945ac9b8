-- No leg so far lacks anything.
use Rattle.std.proofs.Common.{ℕ, ◌<◌}
use Rattle.nm_starts.specs.Alike.{LacksNothing}
use Rattle.nm_starts.proofs.alike.none_lacks.Given as goal

abbrev pub invariant-loop-leg : goal.invariant-loop-leg
invariant-loop-leg g l = (leg : ℕ) → leg < l.leg → LacksNothing leg l.stripe
