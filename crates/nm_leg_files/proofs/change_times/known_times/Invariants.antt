use Rattle.std.proofs.Common.{◌≡◌, length}
use Rattle.nm_leg_files.specs.SavedTimes.{AreKnownTimes}
use Rattle.nm_leg_files.proofs.change_times.known_times.Given as goal

-- the legs so far are told
abbrev pub invariant-legs : goal.invariant-legs
invariant-legs l = (length l.known ≡ 8) × AreKnownTimes l.leg l.times l.identities l.known
