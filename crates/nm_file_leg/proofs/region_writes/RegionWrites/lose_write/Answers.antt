-- The run's regions are the places that are changed.
use Rattle.std.proofs.Common.{◌∙◌, sym}
use Rattle.std.proofs.lemmas.List.{with_items_is}
use Rattle.nm_file_leg.proofs.PeriodLemmas.{loses-write}
use Rattle.nm_file_leg.proofs.region_writes.RegionWrites.lose_write.Goals as goal

pub returns : goal.returns
returns c =
    let written = c.self.inside.written_in in
    let cursors = c.self.inside.rewritten_below in
    let puts = rw c.deref_mut.ensures.value at c.put_number.ensures in
    let firsts = rw c.deref_mut-2.ensures.value at c.put_firsts.ensures in
    rw (← c.self.view_is, with_items_is written c.put_number.new.numbers (puts.length_is ∙ sym written.ok.0), with_items_is cursors c.put_firsts.new.cursors (firsts.length ∙ sym cursors.ok.0))
    (loses-write _ _ _ c.args.at c.args.count _ _ _ _ c.self.invariant.uncovered c.self.invariant.periods puts firsts.firsts firsts.before firsts.behind)
