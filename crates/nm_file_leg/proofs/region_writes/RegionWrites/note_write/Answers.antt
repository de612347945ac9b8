-- The run's regions are the places that are changed.
use Rattle.std.proofs.Common.{◌∙◌, sym}
use Rattle.std.proofs.lemmas.List.{with_items_is}
use Rattle.nm_file_leg.proofs.RememberedLemmas.{in-period, notes-write}
use Rattle.nm_file_leg.proofs.region_writes.RegionWrites.note_write.Goals as goal

pub returns-clause-notes : goal.returns-clause-notes
returns-clause-notes c =
    let written = c.self.inside.written_in in
    let cursors = c.self.inside.rewritten_below in
    let puts = rw c.deref_mut.ensures.value at c.put_number.ensures in
    let moves = rw c.deref_mut-2.ensures.value at c.move_cursors.ensures in
    rw (← c.self.view_is, with_items_is written c.put_number.new.numbers (puts.length_is ∙ sym written.ok.0), with_items_is cursors c.move_cursors.new.cursors (moves.length_is ∙ sym cursors.ok.0))
    (notes-write _ _ _ c.args.at c.args.count _ c.args.succeeded _ _ _ _ c.self.invariant.uncovered c.self.invariant.periods c.written_end-end.ensures puts moves)

pub returns-clause-period : goal.returns-clause-period
returns-clause-period c =
    let written = c.self.inside.written_in in
    let cursors = c.self.inside.rewritten_below in
    let puts = rw c.deref_mut.ensures.value at c.put_number.ensures in
    let moves = rw c.deref_mut-2.ensures.value at c.move_cursors.ensures in
    rw (← c.self.view_is, with_items_is written c.put_number.new.numbers (puts.length_is ∙ sym written.ok.0), with_items_is cursors c.move_cursors.new.cursors (moves.length_is ∙ sym cursors.ok.0))
    (in-period _ _ _ c.args.at c.args.count _ _ _ _ puts)
