use Rattle.std.proofs.Common.{◌≡◌, length}
use Rattle.nm_starts.specs.RenewedIds.{AreRenewed}
use Rattle.nm_starts.proofs.renewed_ids.renewed_ids.Given as goal

-- the legs so far have their ids
abbrev pub invariant-legs : goal.invariant-legs
invariant-legs g l = (length l.renewed ≡ 8) × AreRenewed l.leg l.legs l.ids l.renewed
