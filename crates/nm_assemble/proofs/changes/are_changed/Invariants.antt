use Rattle.nm_assemble.specs.Changes.{AreChanged}
use Rattle.nm_assemble.proofs.changes.are_changed.Given as goal

-- each leg so far was changed
abbrev pub invariant-legs : goal.invariant-legs
invariant-legs l = AreChanged l.leg l.newest l.legs
