use Rattle.nm_assemble.specs.Own.{NoneMixed}
use Rattle.nm_assemble.proofs.own.first_mixed.Given as goal

-- none of the legs so far has another leg's file
abbrev pub invariant-legs : goal.invariant-legs
invariant-legs l = NoneMixed l.leg l.newest l.legs
