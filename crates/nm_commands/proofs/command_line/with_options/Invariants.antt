-- The command has the options of the rows so far.
use Rattle.std.proofs.Common.{◌≡◌, take}
use Rattle.std.specs.List.{fold}
use Rattle.clap.specs.Words.{app_of}
use Rattle.nm_commands.proofs.Rows.{with_row}
use Rattle.nm_commands.proofs.command_line.with_options.Given as goal

abbrev pub invariant-loop-row : goal.invariant-loop-row
invariant-loop-row l =
    app_of l.command ≡ fold with_row (app_of l.fn.program) (take l.row-index l.rows)
