use Rattle.std.proofs.Common.{◌++◌, take}
use Rattle.std.specs.List.{flat_map}
use Rattle.nm_script_lib.specs.Runs.{loaded_line}
use Rattle.nm_script_lib.specs.Streams.{FlushesPrefix}
use Rattle.nm_script_lib.proofs.engine.put_loads.Given as goal

abbrev pub invariant-loop-load : goal.invariant-loop-load
invariant-loop-load g l = FlushesPrefix (g.W.Write.contents l.initial.out) (g.W.Write.contents l.out)
    (l.initial.buffer.items ++ flat_map loaded_line (take l._load-index l.loads))
    l.buffer.items
