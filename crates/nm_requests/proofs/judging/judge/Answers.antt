-- A number that is no command's is none that is served.
use Rattle.std.proofs.Common.{◌≡◌, false, sym}
use Rattle.std.proofs.lemmas.Bool.{ne_eqb}
use Rattle.nm_wire.specs.declared.command.Command.{Command}
use Rattle.nm_wire.specs.declared.command.Command.TheVariants as command
use Rattle.nm_wire.specs.Command.{command_number}
use Rattle.nm_requests.specs.Judging.{asks}
use Rattle.nm_requests.specs.declared.request.Request.{Request}
use Rattle.nm_requests.proofs.judging.judge.Goals as goal

unasked : (request : Request) → ((command : Command) → command_number command ≡ request.kind
    → ⊥) → (command : Command) → asks request command ≡ false
unasked request unknown command = ne_eqb request.kind (command_number command)
    (λ e. unknown command (sym e))

pub returns-in_default-clause-table : goal.returns-in_default-clause-table
returns-in_default-clause-table c =
    let none = unasked c.args.request.now c.in_default.ensures.unknown in
    rw (
      none command.Disconnect,
      none command.Read,
      none command.Write,
      none command.Flush,
      none
          command.Trim,
      none command.WriteZeroes,
    )
