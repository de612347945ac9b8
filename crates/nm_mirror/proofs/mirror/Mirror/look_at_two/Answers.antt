-- The first look ends the turn, or a second one follows.
use Rattle.nm_mirror.specs.Verify.{Once, Twice}
use Rattle.nm_mirror.proofs.mirror.Mirror.look_at_two.Goals as goal

pub returns-in-Ends-clause-looks : goal.returns-in-Ends-clause-looks
returns-in-Ends-clause-looks g c = Once c.look_first-begun.new.held c.in-Ends.seen
    (rw c.in-Ends.is at c.look_first-begun.ensures.looks)

pub returns-in-Held-clause-looks : goal.returns-in-Held-clause-looks
returns-in-Held-clause-looks g c =
    Twice c.look_first-begun.new.held c.look_second.new.found c.in-Held.half c.look_second.result
    (rw c.in-Held.is at c.look_first-begun.ensures.looks) c.look_second.ensures.looks
