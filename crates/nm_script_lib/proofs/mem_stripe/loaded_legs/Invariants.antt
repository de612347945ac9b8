use Rattle.nm_script_lib.proofs.Loaded.{LoadedSoFar}
use Rattle.nm_script_lib.proofs.mem_stripe.loaded_legs.Given as goal

abbrev pub invariant-loop-place : goal.invariant-loop-place
invariant-loop-place l = LoadedSoFar l.place l.mirror l.loads l.all.items
