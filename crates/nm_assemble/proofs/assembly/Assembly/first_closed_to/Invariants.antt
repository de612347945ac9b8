use Rattle.nm_assemble.specs.Image.{OpensFirst}
use Rattle.nm_assemble.proofs.assembly.Assembly.first_closed_to.Given as goal

-- each stripe so far may open on the leg
abbrev pub invariant-stripes : goal.invariant-stripes
invariant-stripes l = OpensFirst l.stripe l.leg l.self
