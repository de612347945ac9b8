use Rattle.std.proofs.Common.{◌≡◌, length}
use Rattle.nm_starts.specs.TwoPlaces.{AreLast}
use Rattle.nm_starts.proofs.two_places.last_superblocks.Given as goal

-- the legs so far
abbrev pub invariant-legs : goal.invariant-legs
invariant-legs l = (length l.last ≡ 8) × AreLast l.leg l.newest l.later l.last
