use Rattle.std.proofs.Common.{◌≡◌, length}
use Rattle.nm_assemble.specs.Own.{AreOwn}
use Rattle.nm_assemble.proofs.own.own_legs.Given as goal

-- the legs so far are told
abbrev pub invariant-legs : goal.invariant-legs
invariant-legs l = (length l.own ≡ 8) × AreOwn l.leg l.newest l.legs l.own
