use Rattle.std.proofs.Common.{◌++◌, codes}
use Rattle.nm_commands.proofs.Lines.{number_found, no_number_after}
use Rattle.nm_commands.proofs.control_command.number_after.Goals as goal

pub returns-clause-some : goal.returns-clause-some
returns-clause-some c = number_found (c.args.word.now ++ codes " ") c.args.line.now
    c.in_ok-after_word.field-0.now c.number_of.result c.in_ok-after_word.ensures.some
    c.number_of.ensures.some

pub returns-clause-none : goal.returns-clause-none
returns-clause-none c none = no_number_after (c.args.word.now ++ codes " ") c.args.line.now
    c.in_ok-after_word.field-0.now c.in_ok-after_word.ensures.some (c.number_of.ensures.none none)
