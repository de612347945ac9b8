-- The blocks left to the legs so far are added.
use Rattle.std.proofs.Common.{◌≡◌}
use Rattle.nm_mirror.specs.Reopening.{left_to_first}
use Rattle.nm_mirror.proofs.reopening.left_in.Given as goal

abbrev pub invariant-legs : goal.invariant-legs
invariant-legs g l = l.blocks ≡ left_to_first l.leg l.stripe
