use Rattle.std.proofs.Common.{◌≡◌, length}
use Rattle.nm_assemble.specs.Image.{OpensOn}
use Rattle.nm_assemble.specs.StripeSets.{HasThese}
use Rattle.nm_assemble.proofs.assembly.Assembly.named_set.Given as goal

-- the legs so far are told
abbrev pub invariant-legs : goal.invariant-legs
invariant-legs l =
    (length l.set ≡ 8) × HasThese l.leg (OpensOn l.asked l.self l.stripe) l.set
