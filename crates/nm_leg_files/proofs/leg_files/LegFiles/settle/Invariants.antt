use Rattle.std.proofs.Common.{◌≡◌, length}
use Rattle.nm_leg_files.specs.Here.{AreOfHere}
use Rattle.nm_leg_files.proofs.leg_files.LegFiles.settle.Given as goal

-- the legs so far are told
abbrev pub invariant-legs : goal.invariant-legs
invariant-legs l = (length l.settled ≡ 8) × AreOfHere l.leg l.self l.settled
