use Rattle.std.proofs.Common.{◌≡◌, length}
use Rattle.nm_assemble.specs.Image.{NamesAlone}
use Rattle.nm_assemble.proofs.SetLemmas.{NothingFrom}
use Rattle.nm_assemble.proofs.first.sets_alone.Given as goal

-- the stripes so far are told, and nothing is said of the others
abbrev pub invariant-stripes : goal.invariant-stripes
invariant-stripes l =
    (length l.sets.bytes ≡ 256) × NamesAlone l.stripe l.stripes l.master l.equal l.sets
    × NothingFrom l.stripe l.sets
