use Rattle.std.proofs.Common.{◌≡◌, length}
use Rattle.nm_assemble.specs.Image.{AreSetsOf}
use Rattle.nm_assemble.proofs.SetLemmas.{NothingFrom}
use Rattle.nm_assemble.proofs.assembly.Assembly.sets.Given as goal

-- the stripes so far are told, and nothing is said of the others
abbrev pub invariant-stripes : goal.invariant-stripes
invariant-stripes l =
    (length l.sets.bytes ≡ 256) × AreSetsOf l.stripe l.asked l.self l.here l.sets
    × NothingFrom l.stripe l.sets
