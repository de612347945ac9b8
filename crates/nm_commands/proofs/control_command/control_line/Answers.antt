-- A line that no row has asks for nothing.
use Rattle.std.proofs.Common.{arith, below_more, refl}
use Rattle.nm_commands.proofs.Lines.{asks_nothing}
use Rattle.nm_commands.proofs.control_command.control_line.Goals as goal

pub returns : goal.returns
returns c = asks_nothing c.args.line.now
    (λ place low. c.loop-place.invariant place (omega arith))

pub loop-place-preserved : goal.loop-place-preserved
loop-place-preserved c = below_more _ _ c.loop-place.invariant (c.in_default.ensures.none refl)
