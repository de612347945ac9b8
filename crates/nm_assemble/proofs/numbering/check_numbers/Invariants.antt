use Rattle.nm_assemble.specs.Numbering.{AreApart}
use Rattle.nm_assemble.proofs.numbering.check_numbers.Given as goal

-- the numbers so far are below the count, and nobody later says them
abbrev pub invariant-legs : goal.invariant-legs
invariant-legs l = AreApart l.leg l.count l.said
