use Rattle.std.proofs.Common.{◌≡◌, length}
use Rattle.nm_starts.specs.RenewedIds.{AreUnknownHere}
use Rattle.nm_starts.proofs.renewed_ids.unknown_here.Given as goal

-- the legs so far are told
abbrev pub invariant-legs : goal.invariant-legs
invariant-legs l = (length l.unknown ≡ 8) × AreUnknownHere l.leg l.image l.here l.unknown
