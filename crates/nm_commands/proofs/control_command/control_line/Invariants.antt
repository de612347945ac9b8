-- None of the rows so far has the line.
use Rattle.std.proofs.Common.{ℕ, ◌<◌}
use Rattle.nm_commands.specs.ControlLine.{IsPassed}
use Rattle.nm_commands.proofs.control_command.control_line.Given as goal

abbrev pub invariant-loop-place : goal.invariant-loop-place
invariant-loop-place l = (place : ℕ) → place < l.place → IsPassed l.line place
