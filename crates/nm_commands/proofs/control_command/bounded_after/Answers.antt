-- A line has one number, and this one may not follow.
use Rattle.std.proofs.Common.{arith, refl}
use Rattle.nm_commands.proofs.Lines.{out_of_bounds}
use Rattle.nm_commands.proofs.control_command.bounded_after.Goals as goal
use Rattle.nm_commands.proofs.control_command.bounded_after.Goals.{then-number-least-via-then-number-least, then-number-least-via-else-number-least+then-number-most}

pub returns-in_err-number-clause-none : goal.returns-in_err-number-clause-none
returns-in_err-number-clause-none c none number is =
    c.in_err-number.ensures.none refl number is.numeral

pub returns-then-number-least-clause-none : goal.returns-then-number-least-clause-none
returns-then-number-least-clause-none c none =
    out_of_bounds c.args.argument c.args.word.now c.args.line.now c.in_ok-number.number
    c.in_ok-number.ensures.some (λ within. elim c.then-number-least.branch [
      | then-number-least-via-then-number-least w ↦ absurd (omega (arith, within.0, c.least.ensures, w.if-number-least.true))
      | then-number-least-via-else-number-least+then-number-most w ↦ absurd (omega (arith, within.1, w.most.ensures, w.if-number-most.true))
    ])
