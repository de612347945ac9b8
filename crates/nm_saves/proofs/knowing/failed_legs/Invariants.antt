use Rattle.std.proofs.Common.{◌≡◌, length}
use Rattle.nm_saves.specs.Files.{AreFailed}
use Rattle.nm_saves.proofs.knowing.failed_legs.Given as goal

-- the legs so far are told
abbrev pub invariant-legs : goal.invariant-legs
invariant-legs g l = (length l.failed ≡ 8) × AreFailed l.leg l.files l.failed
