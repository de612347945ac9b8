-- One read more is looked at.
use Rattle.std.proofs.Common.{false, arith}
use Rattle.nm_calls.specs.Answers.{voided_without}
use Rattle.nm_regions.proofs.Marking.{map-step}
use Rattle.nm_calls.proofs.calls.void_each_without.Goals as goal

pub loop-read-preserved : goal.loop-read-preserved
loop-read-preserved c = rw c.voided_without.ensures (map-step (voided_without c.args.leg c.args.master) c.args.reads.now c.loop-read.reads c.loop-read.read-index
    (record { ticket = 0; leg = 0; block = 0; count = 0; void = false }) (omega arith) c.loop-read.invariant)
