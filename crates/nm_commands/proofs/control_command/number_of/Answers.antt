use Rattle.nm_commands.proofs.Lines.{named_is_text}
use Rattle.nm_commands.proofs.control_command.number_of.Goals as goal

pub returns-in-Err-clause-none : goal.returns-in-Err-clause-none
returns-in-Err-clause-none c none leg named =
    c.in-Err.ensures.cases.0 (named_is_text c.args.word.now leg named)
