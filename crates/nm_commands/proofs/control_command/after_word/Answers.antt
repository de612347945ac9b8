-- What stands behind the word does not begin with a blank.
use Rattle.std.proofs.Common.{codes}
use Rattle.nm_commands.proofs.Lines.{no_blank}
use Rattle.nm_commands.proofs.control_command.after_word.Goals as goal

pub returns-clause-none : goal.returns-clause-none
returns-clause-none c none = no_blank c.args.word.now (codes " ") c.args.line.now
    c.in_ok-rest.rest.now c.in_ok-rest.ensures.some (c.after-2.ensures.none none)
