use Rattle.std.proofs.Common.{◌≤◌}
use Rattle.nm_saves.specs.Files.{AreUpTo, IsLeastUpTo}
use Rattle.nm_saves.proofs.knowing.highest_of.Given as goal

-- it is above the stamps of the legs so far, and no number below it is
abbrev pub invariant-legs : goal.invariant-legs
invariant-legs g l = (l.after ≤ l.highest) × AreUpTo l.leg l.highest l.files × IsLeastUpTo l.leg l.after l.highest l.files
