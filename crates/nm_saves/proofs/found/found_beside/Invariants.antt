use Rattle.std.proofs.Common.{◌≡◌, length}
use Rattle.nm_saves.specs.Files.{AreFound}
use Rattle.nm_saves.proofs.found.found_beside.Given as goal

-- the superblocks beside the legs so far
abbrev pub invariant-legs : goal.invariant-legs
invariant-legs g l = (length l.found ≡ 8) × AreFound l.leg l.files l.found
