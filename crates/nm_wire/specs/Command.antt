-- The commands that are served ("Request types").
use Rattle.std.specs.Prelude.{ℕ}
use Rattle.nm_wire.specs.declared.command.Command.{Command}
use Rattle.nm_wire.specs.declared.command.Command.TheVariants.{Read, Write, Disconnect}
use Rattle.nm_wire.specs.declared.command.Command.TheVariants.{Flush, Trim, WriteZeroes}

-- the number of a command
abbrev pub command_number : Command → ℕ
command_number Read = 0
command_number Write = 1
command_number Disconnect = 2
command_number Flush = 3
command_number Trim = 4
command_number WriteZeroes = 6
