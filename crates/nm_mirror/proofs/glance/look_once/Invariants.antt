-- Each glance so far is at the stripe behind the lock in its place.
use Rattle.std.proofs.Common.{map}
use Rattle.nm_mirror.specs.Glances.{AreGlancesAt}
use Rattle.nm_mirror.proofs.glance.look_once.Given as goal

abbrev pub invariant-loop-place : goal.invariant-loop-place
invariant-loop-place g l =
    AreGlancesAt g.row.L.Denot (map (λ lock. lock.number) l.locks) l.glances
