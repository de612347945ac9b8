use Rattle.nm_leg_files.specs.Saving.{HasAll}
use Rattle.nm_leg_files.proofs.saving.has_all.Given as goal

-- each leg so far is in the set
abbrev pub invariant-legs : goal.invariant-legs
invariant-legs l = HasAll l.leg l.set
