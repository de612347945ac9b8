-- The ends so far are even.
use Rattle.std.proofs.Common.{◌≡◌, take}
use Rattle.nm_mirror.specs.Closing.{AreEven}
use Rattle.nm_mirror.proofs.closing.even_totals.Given as goal

abbrev pub invariant-loop-place : goal.invariant-loop-place
invariant-loop-place g l = (l.ends ≡ l.fn.ends) × AreEven l.passes (take l.place l.fn.ends.items)
