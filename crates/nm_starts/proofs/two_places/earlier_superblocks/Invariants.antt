use Rattle.std.proofs.Common.{◌≡◌, length}
use Rattle.nm_starts.specs.TwoPlaces.{AreEarlier}
use Rattle.nm_starts.proofs.two_places.earlier_superblocks.Given as goal

-- the legs so far
abbrev pub invariant-legs : goal.invariant-legs
invariant-legs l = (length l.earlier ≡ 8) × AreEarlier l.leg l.new l.old l.earlier
