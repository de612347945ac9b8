use Rattle.nm_assemble.specs.Start.{AreSeen}
use Rattle.nm_assemble.proofs.missing.missing_leg.Given as goal

-- beside each leg so far that is listed a superblock was found
abbrev pub invariant-legs : goal.invariant-legs
invariant-legs l = AreSeen l.leg l.newest l.found
