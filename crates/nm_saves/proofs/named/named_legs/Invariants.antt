use Rattle.std.proofs.Common.{◌≡◌, length}
use Rattle.nm_saves.specs.Files.{AreNamed}
use Rattle.nm_saves.proofs.named.named_legs.Given as goal

-- the legs so far are told
abbrev pub invariant-legs : goal.invariant-legs
invariant-legs l = (length l.named ≡ 8) × AreNamed l.leg l.sets l.named
