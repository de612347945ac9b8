use Rattle.std.proofs.Common.{◌++◌, take}
use Rattle.std.specs.List.{flat_map}
use Rattle.nm_script_lib.specs.Printing.{entry_line}
use Rattle.nm_script_lib.specs.Streams.{FlushesPrefix}
use Rattle.nm_script_lib.proofs.engine.put_entries.Given as goal

abbrev pub invariant-loop-entry : goal.invariant-loop-entry
invariant-loop-entry g l = FlushesPrefix (g.W.Write.contents l.initial.out) (g.W.Write.contents l.out)
    (l.initial.buffer.items ++ flat_map entry_line (take l.entry-index l.entries))
    l.buffer.items
