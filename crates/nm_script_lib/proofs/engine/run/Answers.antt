-- A run is its opening, then its steps, and then its history.
use Rattle.nm_script_lib.proofs.Inside.{opened_shape}
use Rattle.nm_script_lib.proofs.RunLaws.{on_err, opening_alone, opening_cut, run_not_opened, run_stopped, run_done, run_cut, runs_after, stops_after, ok_then, err_then}
use Rattle.nm_script_lib.proofs.engine.run.Goals as goal

pub returns-in_err-buffer-clause-err : goal.returns-in_err-buffer-clause-err
returns-in_err-buffer-clause-err g c = on_err _ _ (run_not_opened _ _ _ _ _)

pub returns-in_err-running-clause-err : goal.returns-in_err-running-clause-err
returns-in_err-running-clause-err g c = on_err _ _ (run_not_opened _ _ _ _ _)

pub returns-in_err-put_opening-clause-err : goal.returns-in_err-put_opening-clause-err
returns-in_err-put_opening-clause-err g c =
    let script = c.args.script.now in
    on_err _ _ (opening_cut script.mirror script.loads.items script.master script.steps.items _ _ _ _
    c.in_ok-running.ensures.begins
    (opening_alone script.loads.items script.master c.in_ok-buffer.buffer.items c.in_ok-buffer.ensures.items)
    (rw c.deref.ensures.value at c.in_err-put_opening.ensures.err))

pub run_steps-requires-clause-shape : goal.run_steps-requires-clause-shape
run_steps-requires-clause-shape g c =
    opened_shape _ _ _ _ c.requires.range c.requires.fits c.in_ok-running.ensures.begins.opened

pub run_steps-requires-clause-inside : goal.run_steps-requires-clause-inside
run_steps-requires-clause-inside g c = rw c.deref-2.ensures.value c.requires.inside

pub returns-in_err-run_steps-clause-err : goal.returns-in_err-run_steps-clause-err
returns-in_err-run_steps-clause-err g c =
    let script = c.args.script.now in
    on_err _ _ (run_stopped script.mirror script.loads.items script.master script.steps.items _ _ _ _
    c.in_ok-running.ensures.begins
    (opening_alone script.loads.items script.master c.in_ok-buffer.buffer.items c.in_ok-buffer.ensures.items)
    (stops_after script.mirror script.steps.items _ _ _ _ _ _
    (rw c.deref.ensures.value at c.in_ok-put_opening.ensures.ok)
    (rw c.deref-2.ensures.value at c.in_err-run_steps.ensures.err)))

pub returns-clause-ok : goal.returns-clause-ok
returns-clause-ok g c =
    let script = c.args.script.now in
    ok_then _ _ _ (run_done script.mirror script.loads.items script.master script.steps.items
    _ _ _ _ _ _ _ c.in_ok-running.ensures.begins
    (opening_alone script.loads.items script.master c.in_ok-buffer.buffer.items c.in_ok-buffer.ensures.items)
    (runs_after script.mirror script.steps.items _ _ _ _ _ _ _ _
    (rw c.deref.ensures.value at c.in_ok-put_opening.ensures.ok)
    (rw c.deref-2.ensures.value at c.in_ok-run_steps.ensures.ok)))
    c.finish.ensures.ok

pub returns-clause-err : goal.returns-clause-err
returns-clause-err g c =
    let script = c.args.script.now in
    err_then _ _ _ (run_cut script.mirror script.loads.items script.master script.steps.items
    _ _ _ _ _ _ _ c.in_ok-running.ensures.begins
    (opening_alone script.loads.items script.master c.in_ok-buffer.buffer.items c.in_ok-buffer.ensures.items)
    (runs_after script.mirror script.steps.items _ _ _ _ _ _ _ _
    (rw c.deref.ensures.value at c.in_ok-put_opening.ensures.ok)
    (rw c.deref-2.ensures.value at c.in_ok-run_steps.ensures.ok)))
    c.finish.ensures.err
