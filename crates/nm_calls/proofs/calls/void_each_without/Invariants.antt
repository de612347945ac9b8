-- The first ones are changed, and the others are as they were.
use Rattle.std.proofs.Common.{◌≡◌, ◌++◌, map, take, drop}
use Rattle.nm_calls.specs.Answers.{voided_without}
use Rattle.nm_calls.proofs.calls.void_each_without.Given as goal

abbrev pub invariant-loop-read : goal.invariant-loop-read
invariant-loop-read l =
    l.reads ≡ map (voided_without l.leg l.master) (take l.read-index l.fn.reads) ++ drop l.read-index l.fn.reads
