-- The bits so far are those of the set.
use Rattle.nm_geometry.proofs.LegSetLemmas.{AreBits}
use Rattle.nm_geometry.proofs.leg_set.LegSet.bits.Given as goal

abbrev pub invariant-legs : goal.invariant-legs
invariant-legs l = AreBits l.bits l.self l.leg
