-- Each turn adds the state of the next leg.
use Rattle.std.proofs.Common.{arith}
use Rattle.nm_script_lib.proofs.Lines.{legs_more}
use Rattle.nm_script_lib.proofs.state_line.put_legs.Goals as goal

pub loop-leg-preserved : goal.loop-leg-preserved
loop-leg-preserved c =
    legs_more c.args.stripe.now c.args.legs c.loop-leg.leg c.loop-leg.text.items _ _ (omega arith)
    c.in_ok-put_leg.ensures c.loop-leg.invariant
