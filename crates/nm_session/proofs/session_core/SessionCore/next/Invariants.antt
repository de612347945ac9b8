use Rattle.std.proofs.Common.{◌-◌, ◌^◌}
use Rattle.nm_session.specs.Reading.{ReadsOn}
use Rattle.nm_session.proofs.session_core.SessionCore.next.Given as goal

abbrev pub invariant-loop-next : goal.invariant-loop-next
invariant-loop-next l = ReadsOn l.fn.self l.self

abbrev pub decreases-loop-next : goal.decreases-loop-next
decreases-loop-next l = 2 ^ 63 - l.self.count
