use Rattle.std.proofs.Common.{◌-◌, length}
use Rattle.nm_haggle.proofs.Passings.{Passed}
use Rattle.nm_haggle.proofs.options.answer_options.Given as goal

abbrev pub invariant-loop-head : goal.invariant-loop-head
invariant-loop-head l = Passed l.export l.no_zeroes l.text l.used l.initial.out.items l.out.items

abbrev pub decreases-loop-head : goal.decreases-loop-head
decreases-loop-head l = length l.text - l.used
