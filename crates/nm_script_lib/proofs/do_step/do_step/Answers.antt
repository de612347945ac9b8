-- What a step prints that asks nothing of the stripe.
use Rattle.nm_script_lib.proofs.Lines.{fused_line, holds_line, state_line}
use Rattle.nm_script_lib.proofs.do_step.do_step.Goals as goal

pub returns-in_ok-put_fused-in-Fuse-clause-ok : goal.returns-in_ok-put_fused-in-Fuse-clause-ok
returns-in_ok-put_fused-in-Fuse-clause-ok c =
    fused_line c.args.mirror.now c.args.step c.in-Fuse.leg c.in-Fuse.call c.args.running.now _ _
    c.in-Fuse.is c.in_ok-put_fused-in-Fuse.ensures

pub returns-in_ok-put_holds-in-Peek-clause-ok : goal.returns-in_ok-put_holds-in-Peek-clause-ok
returns-in_ok-put_holds-in-Peek-clause-ok c =
    holds_line c.args.mirror.now c.args.step c.in-Peek.leg c.in-Peek.block c.args.running.now
    c.shown.result.now _ _ c.in-Peek.is c.shown.ensures c.in_ok-put_holds-in-Peek.ensures

pub returns-in_ok-put_state-in-State-clause-ok : goal.returns-in_ok-put_state-in-State-clause-ok
returns-in_ok-put_state-in-State-clause-ok c =
    state_line c.args.mirror.now c.args.step c.args.running.now _ _
    c.in-State.is c.in_ok-put_state-in-State.ensures
