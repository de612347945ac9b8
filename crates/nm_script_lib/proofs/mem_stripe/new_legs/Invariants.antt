use Rattle.nm_script_lib.proofs.Legs.{LegsSoFar}
use Rattle.nm_script_lib.proofs.mem_stripe.new_legs.Given as goal

abbrev pub invariant-loop : goal.invariant-loop
invariant-loop l = LegsSoFar l.counter l.mirror.blocks l.all.items
