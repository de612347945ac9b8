-- The loads so far are a prefix of all; each further one adds its line.
use Rattle.std.proofs.Common.{◌≡◌, ◌+◌, ◌++◌, ◌∷◌, [], get_or, take, drop, sym, ap, ◌∙◌, take-append-drop, arith}
use Rattle.std.proofs.lemmas.List.{take_more}
use Rattle.nm_script_lib.specs.declared.load.Load.{Load}
use Rattle.nm_script_lib.specs.Runs.{loaded_line}
use Rattle.nm_script_lib.proofs.RunLaws.{on_err, items_more, items_prefix, items_prefix_more, prefix_flushed}
use Rattle.nm_script_lib.proofs.engine.put_loads.Goals as goal

-- what stands past the end of a list of loads
abbrev past : Load
past = record { leg = 0; block = 0; fill = 0 }

pub returns-in_err-put_loaded-clause-err : goal.returns-in_err-put_loaded-clause-err
returns-in_err-put_loaded-clause-err g c =
    let i = c.loop-load._load-index in
    let loads = c.args.loads.now in
    on_err _ _ (items_prefix loaded_line _ _ _ loads (take i loads) (drop i loads)
    (sym (take-append-drop i loads))
    (prefix_flushed _ _ _ _ c.loop-load.invariant))

pub returns-in_err-flush_if_full-clause-err : goal.returns-in_err-flush_if_full-clause-err
returns-in_err-flush_if_full-clause-err g c =
    let i = c.loop-load._load-index in
    let loads = c.args.loads.now in
    let more : take (i + 1) loads ≡
    take i loads ++ get_or loads i past ∷ [] = take_more loads i past (omega arith) in
    let split : loads ≡ (take i loads ++ get_or loads i past ∷ []) ++ drop (i + 1) loads =
    sym (take-append-drop (i + 1) loads) ∙ ap (λ r. r ++ drop (i + 1) loads) more in
    on_err _ _ (items_prefix loaded_line _ _ _ loads
    (take i loads ++ get_or loads i past ∷ []) (drop (i + 1) loads) split
    (items_prefix_more loaded_line _ _ _ _ _ (take i loads) (get_or loads i past)
    c.loop-load.invariant
    (rw c.in_ok-put_loaded.ensures at c.in_err-flush_if_full.ensures.err)))

pub loop-load-preserved : goal.loop-load-preserved
loop-load-preserved g c =
    let i = c.loop-load._load-index in
    let loads = c.args.loads.now in
    let more : take (i + 1) loads ≡
    take i loads ++ get_or loads i past ∷ [] = take_more loads i past (omega arith) in
    rw more (items_more loaded_line _ _ _ _ _ _ (take i loads) (get_or loads i past)
    c.loop-load.invariant
    (rw c.in_ok-put_loaded.ensures at c.in_ok-flush_if_full.ensures.ok))
