use Rattle.std.proofs.Common.{◌*◌, ◌≤◌, length, arith}
use Rattle.nm_fanout.specs.Runs.{AreRuns, unlanded_blocks}
use Rattle.nm_fanout.proofs.Waiting.{waiting-few}
use Rattle.nm_fanout.proofs.records.Records.unlanded_count.Goals as goal

pub returns-clause-most : goal.returns-clause-most
returns-clause-most c = rw (← c.self.view_is) (omega
    (arith, c.self.invariant.0.counted, waiting-few c.self.inside.list c.self.invariant.0.in_order.runs))
