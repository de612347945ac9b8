-- The entries so far are a prefix of all; each further one adds its line.
use Rattle.std.proofs.Common.{◌≡◌, ◌+◌, ◌++◌, ◌∷◌, [], get_or, take, drop, sym, ap, ◌∙◌, take-append-drop, arith}
use Rattle.std.proofs.lemmas.List.{take_more}
use Rattle.nm_replay.specs.declared.entry.Kind.TheVariants.{Read}
use Rattle.nm_replay.specs.declared.entry.Entry.{Entry}
use Rattle.nm_script_lib.specs.Printing.{entry_line}
use Rattle.nm_script_lib.proofs.RunLaws.{on_err, items_more, items_prefix, items_prefix_more, prefix_flushed}
use Rattle.nm_script_lib.proofs.engine.put_entries.Goals as goal

-- what stands past the end of a list of entries
abbrev past : Entry
past = record { seq = 0; kind = Read; block = 0; bytes = record { 0 = [] } }

pub returns-in_err-put_entry-clause-err : goal.returns-in_err-put_entry-clause-err
returns-in_err-put_entry-clause-err g c =
    let i = c.loop-entry.entry-index in
    let entries = c.args.entries.now in
    on_err _ _ (items_prefix entry_line _ _ _ entries (take i entries) (drop i entries)
    (sym (take-append-drop i entries))
    (prefix_flushed _ _ _ _ c.loop-entry.invariant))

pub returns-in_err-flush_if_full-clause-err : goal.returns-in_err-flush_if_full-clause-err
returns-in_err-flush_if_full-clause-err g c =
    let i = c.loop-entry.entry-index in
    let entries = c.args.entries.now in
    let more : take (i + 1) entries ≡
    take i entries ++ get_or entries i past ∷ [] = take_more entries i past (omega arith) in
    let split : entries ≡ (take i entries ++ get_or entries i past ∷ []) ++ drop (i + 1) entries =
    sym (take-append-drop (i + 1) entries) ∙ ap (λ r. r ++ drop (i + 1) entries) more in
    on_err _ _ (items_prefix entry_line _ _ _ entries
    (take i entries ++ get_or entries i past ∷ []) (drop (i + 1) entries) split
    (items_prefix_more entry_line _ _ _ _ _ (take i entries) (get_or entries i past)
    c.loop-entry.invariant
    (rw c.in_ok-put_entry.ensures at c.in_err-flush_if_full.ensures.err)))

pub loop-entry-preserved : goal.loop-entry-preserved
loop-entry-preserved g c =
    let i = c.loop-entry.entry-index in
    let entries = c.args.entries.now in
    let more : take (i + 1) entries ≡
    take i entries ++ get_or entries i past ∷ [] = take_more entries i past (omega arith) in
    rw more (items_more entry_line _ _ _ _ _ _ (take i entries) (get_or entries i past)
    c.loop-entry.invariant
    (rw c.in_ok-put_entry.ensures at c.in_ok-flush_if_full.ensures.ok))
