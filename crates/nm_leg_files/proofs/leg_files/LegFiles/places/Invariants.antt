-- So far there is a place for each of the first files.
use Rattle.std.proofs.Common.{◌≡◌, map, take}
use Rattle.nm_leg_files.specs.Places.{kept_from, kept_in}
use Rattle.nm_leg_files.proofs.leg_files.LegFiles.places.Given as goal

abbrev pub invariant-loop-number : goal.invariant-loop-number
invariant-loop-number l =
    map kept_in l.places.items ≡ kept_from l.fn.self 0 (take l.number l.fn.self.files.items)
