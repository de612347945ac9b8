-- The buffer goes out first, and the history after it.
use Rattle.std.proofs.Common.{◌∙◌, refl}
use Rattle.nm_script_lib.proofs.RunLaws.{on_err, prefix_longer, prefix_whole}
use Rattle.nm_script_lib.proofs.HistoryLaws.{Copied, prefix_finished, whole_finished}
use Rattle.nm_script_lib.proofs.engine.finish.Goals as goal

pub returns-in_err-send-clause-err : goal.returns-in_err-send-clause-err
returns-in_err-send-clause-err g c =
    on_err _ _ (prefix_longer _ _ c.args.buffer.now.items _
    (rw c.deref.ensures.value at c.in_err-send.ensures.err))

pub returns-in_err-entries-clause-err : goal.returns-in_err-entries-clause-err
returns-in_err-entries-clause-err g c =
    on_err _ _ (prefix_longer _ _ c.args.buffer.now.items _
    (prefix_whole _ _ _ (rw c.deref.ensures.value at c.in_ok-send.ensures.ok)))

pub returns-in_err-put_history-clause-err : goal.returns-in_err-put_history-clause-err
returns-in_err-put_history-clause-err g c =
    let copied : Copied c.args.stripe.now c.deref-2.result.now c.total.result = record {
      entries_are = c.deref-2.ensures.value ∙ c.in_ok-entries.ensures.ok;
      total_is = c.total.ensures;
      consistent = rw (
        c.deref-2.ensures.value,
        c.in_ok-entries.ensures.ok,
      ) (c.sound.ensures.consistent refl);
    } in
    on_err _ _ (prefix_finished c.args.stripe.now c.deref-2.result.now c.total.result _ _ _
    c.args.buffer.now.items c.clear.new.self.items
    (rw c.deref.ensures.value at c.in_ok-send.ensures.ok) copied c.clear.ensures.items
    c.in_err-put_history.ensures.err)

pub returns-then-is_err-clause-err : goal.returns-then-is_err-clause-err
returns-then-is_err-clause-err g c =
    let copied : Copied c.args.stripe.now c.deref-2.result.now c.total.result = record {
      entries_are = c.deref-2.ensures.value ∙ c.in_ok-entries.ensures.ok;
      total_is = c.total.ensures;
      consistent = rw (
        c.deref-2.ensures.value,
        c.in_ok-entries.ensures.ok,
      ) (c.sound.ensures.consistent refl);
    } in
    prefix_whole _ _ _ (whole_finished c.args.stripe.now c.deref-2.result.now c.total.result _ _ _ _
    c.args.buffer.now.items c.clear.new.self.items
    (rw c.deref.ensures.value at c.in_ok-send.ensures.ok) copied c.clear.ensures.items
    c.in_ok-put_history.ensures.ok c.flush.ensures.bytes)

pub returns-clause-ok : goal.returns-clause-ok
returns-clause-ok g c =
    let copied : Copied c.args.stripe.now c.deref-2.result.now c.total.result = record {
      entries_are = c.deref-2.ensures.value ∙ c.in_ok-entries.ensures.ok;
      total_is = c.total.ensures;
      consistent = rw (
        c.deref-2.ensures.value,
        c.in_ok-entries.ensures.ok,
      ) (c.sound.ensures.consistent refl);
    } in
    whole_finished c.args.stripe.now c.deref-2.result.now c.total.result _ _ _ _
    c.args.buffer.now.items c.clear.new.self.items
    (rw c.deref.ensures.value at c.in_ok-send.ensures.ok) copied c.clear.ensures.items
    c.in_ok-put_history.ensures.ok c.flush.ensures.bytes
