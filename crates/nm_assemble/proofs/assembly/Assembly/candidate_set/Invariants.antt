use Rattle.std.proofs.Common.{◌≡◌, length}
use Rattle.nm_assemble.specs.Image.{IsCandidate}
use Rattle.nm_assemble.specs.StripeSets.{HasThese}
use Rattle.nm_assemble.proofs.assembly.Assembly.candidate_set.Given as goal

-- the legs so far are told
abbrev pub invariant-legs : goal.invariant-legs
invariant-legs l =
    (length l.set ≡ 8) × HasThese l.leg (IsCandidate l.asked l.self l.here l.stripe) l.set
