use Rattle.std.proofs.Common.{◌≡◌, length}
use Rattle.nm_starts.specs.RenewedIds.{AreFirstIds}
use Rattle.nm_starts.proofs.renewed_ids.first_ids.Given as goal

-- the legs so far have their ids
abbrev pub invariant-legs : goal.invariant-legs
invariant-legs g l = (length l.ids ≡ 8) × AreFirstIds l.leg l.legs l.ids
