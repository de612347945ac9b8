use Rattle.std.proofs.Common.{◌≡◌, length}
use Rattle.nm_assemble.specs.Start.{AreFresh}
use Rattle.nm_assemble.proofs.fresh.fresh_legs.Given as goal

-- the legs so far are told
abbrev pub invariant-legs : goal.invariant-legs
invariant-legs l = (length l.fresh ≡ 8) × AreFresh l.leg l.newest l.found l.legs l.fresh
