use Rattle.std.proofs.Common.{take}
use Rattle.nm_replay.specs.History.{Consistent}
use Rattle.nm_replay.proofs.history.check.Given as goal

abbrev pub invariant-loop-index : goal.invariant-loop-index
invariant-loop-index l = Consistent (take l.index l.entries)
