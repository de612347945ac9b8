use Rattle.nm_assemble.specs.Masters.{AllOpen}
use Rattle.nm_assemble.proofs.masters.closed_stripe.Given as goal

-- each stripe so far opens on a leg
abbrev pub invariant-stripes : goal.invariant-stripes
invariant-stripes l = AllOpen l.stripe l.newest l.fresh
