-- What is written is a prefix of the counts, the entries and the verdict, in this order.
use Rattle.nm_script_lib.proofs.RunLaws.{on_err, prefix_flushed}
use Rattle.nm_script_lib.proofs.HistoryLaws.{nothing_yet, prefix_of_entries, buffers_all, prefix_of_all, whole_history}
use Rattle.nm_script_lib.proofs.engine.put_history.Goals as goal

pub returns-in_err-is_legal-clause-err : goal.returns-in_err-is_legal-clause-err
returns-in_err-is_legal-clause-err g c =
    on_err _ _ (nothing_yet c.args.entries.now c.args.total _ c.args.buffer.now.items)

pub returns-in_err-put_counts-clause-err : goal.returns-in_err-put_counts-clause-err
returns-in_err-put_counts-clause-err g c =
    on_err _ _ (nothing_yet c.args.entries.now c.args.total _ c.args.buffer.now.items)

pub returns-in_err-put_entries-clause-err : goal.returns-in_err-put_entries-clause-err
returns-in_err-put_entries-clause-err g c =
    on_err _ _ (prefix_of_entries c.args.entries.now c.args.total _ _
    c.args.buffer.now.items c.put_counts.new.text.items c.in_ok-put_counts.ensures
    c.in_err-put_entries.ensures.err)

pub returns-in_err-put_legal-clause-err : goal.returns-in_err-put_legal-clause-err
returns-in_err-put_legal-clause-err g c =
    on_err _ _ (prefix_of_entries c.args.entries.now c.args.total _ _
    c.args.buffer.now.items c.put_counts.new.text.items c.in_ok-put_counts.ensures
    (prefix_flushed _ _ _ _ c.in_ok-put_entries.ensures.ok))

pub returns-in_err-send-clause-err : goal.returns-in_err-send-clause-err
returns-in_err-send-clause-err g c =
    let buffer = buffers_all c.args.entries.now c.args.total c.in_ok-is_legal.is_legal _ _
    c.args.buffer.now.items c.put_counts.new.text.items c.put_entries.new.buffer.items
    c.put_legal.new.text.items
    c.in_ok-put_counts.ensures c.in_ok-put_entries.ensures.ok c.in_ok-put_legal.ensures in
    on_err _ _ (prefix_of_all c.args.entries.now c.args.total c.in_ok-is_legal.is_legal
    c.in_ok-is_legal.ensures.ok _ _ _
    c.args.buffer.now.items c.put_legal.new.text.items buffer
    (rw c.deref.ensures.value at c.in_err-send.ensures.err))

pub returns-clause-ok : goal.returns-clause-ok
returns-clause-ok g c =
    let buffer = buffers_all c.args.entries.now c.args.total c.in_ok-is_legal.is_legal _ _
    c.args.buffer.now.items c.put_counts.new.text.items c.put_entries.new.buffer.items
    c.put_legal.new.text.items
    c.in_ok-put_counts.ensures c.in_ok-put_entries.ensures.ok c.in_ok-put_legal.ensures in
    whole_history c.args.entries.now c.args.total c.in_ok-is_legal.is_legal c.in_ok-is_legal.ensures.ok
    _ _ _
    c.args.buffer.now.items c.put_legal.new.text.items buffer
    (rw c.deref.ensures.value at c.in_ok-send.ensures.ok)
