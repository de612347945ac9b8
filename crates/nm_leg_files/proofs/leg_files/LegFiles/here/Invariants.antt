use Rattle.std.proofs.Common.{◌≡◌, length}
use Rattle.nm_leg_files.specs.Here.{AreHere}
use Rattle.nm_leg_files.proofs.leg_files.LegFiles.here.Given as goal

-- the legs so far are told
abbrev pub invariant-legs : goal.invariant-legs
invariant-legs l = (length l.here ≡ 8) × AreHere l.leg l.self l.here
