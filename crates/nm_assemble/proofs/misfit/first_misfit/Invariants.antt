use Rattle.nm_assemble.specs.Start.{AllFit}
use Rattle.nm_assemble.proofs.misfit.first_misfit.Given as goal

-- the superblocks of the legs so far go with the newest one
abbrev pub invariant-legs : goal.invariant-legs
invariant-legs l = AllFit l.leg l.found l.newest
