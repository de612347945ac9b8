use Rattle.nm_assemble.specs.Own.{NoneAnother}
use Rattle.nm_assemble.proofs.own.first_another.Given as goal

-- none of the legs so far is such a one
abbrev pub invariant-legs : goal.invariant-legs
invariant-legs l = NoneAnother l.leg l.stripe l.newest l.legs
