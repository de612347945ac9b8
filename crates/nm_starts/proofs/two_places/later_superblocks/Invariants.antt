use Rattle.std.proofs.Common.{◌≡◌, length}
use Rattle.nm_starts.specs.TwoPlaces.{AreLater}
use Rattle.nm_starts.proofs.two_places.later_superblocks.Given as goal

-- the legs so far
abbrev pub invariant-legs : goal.invariant-legs
invariant-legs l = (length l.later ≡ 8) × AreLater l.leg l.new l.old l.later
