use Rattle.std.proofs.Common.{◌≡◌, length}
use Rattle.nm_starts.specs.Unknown.{AreUnknown}
use Rattle.nm_starts.proofs.unknown.unknown_legs.Given as goal

-- the legs so far are told
abbrev pub invariant-legs : goal.invariant-legs
invariant-legs l = (length l.unknown ≡ 8) × AreUnknown l.leg l.newest l.found l.unknown
