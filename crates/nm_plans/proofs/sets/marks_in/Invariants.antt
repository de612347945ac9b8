use Rattle.std.proofs.Common.{◌≡◌, length}
use Rattle.nm_plans.specs.Sets.{AreMarksOf}
use Rattle.nm_plans.proofs.sets.marks_in.Given as goal

-- the marks so far are told
abbrev pub invariant-spans : goal.invariant-spans
invariant-spans l = (length l.marks.items ≡ l.span) × AreMarksOf l.span l.map l.marks.items
