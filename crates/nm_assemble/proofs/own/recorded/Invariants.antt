use Rattle.nm_assemble.proofs.OwnLemmas.{RecordsUpTo}
use Rattle.nm_assemble.proofs.own.recorded.Given as goal

-- the legs so far are recorded, and the others as before
abbrev pub invariant-legs : goal.invariant-legs
invariant-legs l = RecordsUpTo l.leg l.own l.here l.old l.new
