use Rattle.nm_assemble.proofs.NewestLemmas.{IsNewestOf}
use Rattle.nm_assemble.proofs.newest.newest_of.Given as goal

-- the newest of the first legs
abbrev pub invariant-legs : goal.invariant-legs
invariant-legs l = IsNewestOf l.leg l.found l.newest
