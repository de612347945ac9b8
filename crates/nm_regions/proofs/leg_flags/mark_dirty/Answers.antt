use Rattle.std.proofs.Common.{arith}
use Rattle.nm_regions.proofs.Dirtied.{dirty-step, dirty-few}
use Rattle.nm_regions.proofs.leg_flags.mark_dirty.Goals as goal

pub overflow_add-count : goal.overflow_add-count
overflow_add-count c =
    let few = dirty-few c.loop-at.at c.args.writes.now c.args.behind.now c.loop-at.behind
    c.loop-at.count c.loop-at.invariant in
    let most = c.requires.few in
    grind (arith)

pub loop-at-preserved : goal.loop-at-preserved
loop-at-preserved c = rw c.from-count.ensures (dirty-step c.loop-at.at c.args.writes.now
    c.args.behind.now c.loop-at.behind c.loop-at.count c.loop-at-test.true c.loop-at.invariant
    c.requires.places)
