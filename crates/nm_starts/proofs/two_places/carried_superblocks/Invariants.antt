use Rattle.std.proofs.Common.{◌≡◌, length}
use Rattle.nm_starts.specs.TwoPlaces.{AreCarried}
use Rattle.nm_starts.proofs.two_places.carried_superblocks.Given as goal

-- the legs so far
abbrev pub invariant-legs : goal.invariant-legs
invariant-legs l = (length l.carried ≡ 8) × AreCarried l.leg l.counted l.new l.carried
