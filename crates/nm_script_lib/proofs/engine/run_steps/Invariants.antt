use Rattle.std.proofs.Common.{◌++◌, take}
use Rattle.nm_script_lib.specs.MemStripe.{HasShape}
use Rattle.nm_script_lib.specs.Runs.{RunsSteps}
use Rattle.nm_script_lib.specs.Streams.{FlushesPrefix}
use Rattle.nm_script_lib.proofs.engine.run_steps.Given as goal

abbrev pub invariant-loop-asked : goal.invariant-loop-asked
invariant-loop-asked g l = record {
  shape : HasShape l.mirror l.running.stripe;
  runs : RunsSteps l.mirror (take l.asked-index l.steps) l.initial.running l.running (λ text.
      FlushesPrefix (g.W.Write.contents l.initial.out) (g.W.Write.contents l.out)
      (l.initial.buffer.items ++ text) l.buffer.items);
}
