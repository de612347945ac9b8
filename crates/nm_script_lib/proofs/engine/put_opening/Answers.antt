-- The lines of the loads, and then the line of the start; without a start none.
use Rattle.nm_script_lib.proofs.RunLaws.{on_err, loads_cut, prefix_flushed, start_cut, start_done}
use Rattle.nm_script_lib.proofs.engine.put_opening.Goals as goal

pub returns-in_err-put_loads-clause-err : goal.returns-in_err-put_loads-clause-err
returns-in_err-put_loads-clause-err g c =
    on_err _ _ (loads_cut c.args.loads.now _ c.args.master _ _ c.args.buffer.now.items c.in-Some.is
    c.in_err-put_loads.ensures.err)

pub returns-in_err-put_started-clause-err : goal.returns-in_err-put_started-clause-err
returns-in_err-put_started-clause-err g c =
    on_err _ _ (loads_cut c.args.loads.now _ c.args.master _ _ c.args.buffer.now.items c.in-Some.is
    (prefix_flushed _ _ _ _ c.in_ok-put_loads.ensures.ok))

pub returns-in_err-flush_if_full-clause-err : goal.returns-in_err-flush_if_full-clause-err
returns-in_err-flush_if_full-clause-err g c =
    on_err _ _ (start_cut c.args.loads.now _ c.args.master _ _ _ c.args.buffer.now.items _ _
    c.in-Some.is c.in_ok-put_loads.ensures.ok c.in_ok-put_started.ensures
    c.in_err-flush_if_full.ensures.err)

pub returns-clause-ok : goal.returns-clause-ok
returns-clause-ok g c =
    start_done c.args.loads.now _ c.args.master _ _ _ c.args.buffer.now.items _ _ _
    c.in-Some.is c.in_ok-put_loads.ensures.ok c.in_ok-put_started.ensures
    c.in_ok-flush_if_full.ensures.ok
