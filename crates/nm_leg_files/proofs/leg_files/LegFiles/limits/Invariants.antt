-- So far there is a limit for each of the first files.
use Rattle.std.proofs.Common.{◌≡◌, map, take}
use Rattle.nm_leg_files.specs.Limits.{calls_in, calls_of}
use Rattle.nm_leg_files.proofs.leg_files.LegFiles.limits.Given as goal

abbrev pub invariant-loop-file : goal.invariant-loop-file
invariant-loop-file l =
    map calls_in l.limits.items ≡ map calls_of (take l.file-index l.fn.self.files.items)
