use Rattle.std.proofs.Common.{◌≡◌, length}
use Rattle.nm_saves.specs.Rereading.{RereadsTo, TellsTo}
use Rattle.nm_saves.proofs.rereading.read_failed.Given as goal

-- the files of the legs so far are read again, and their errors tell how
abbrev pub invariant-legs : goal.invariant-legs
invariant-legs g l =
    RereadsTo l.leg g.F.SlotFile.honest l.initial.files l.files
    × TellsTo l.leg l.initial.files l.files l.initial.errors l.errors
    × (length l.errors ≡ 8)
