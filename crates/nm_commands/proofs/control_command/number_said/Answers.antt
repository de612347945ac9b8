-- Where something follows the word, a line of it has a number.
use Rattle.nm_commands.proofs.Lines.{numbered, said_if_any}
use Rattle.nm_commands.proofs.control_command.number_said.Goals as goal

pub returns-in_default : goal.returns-in_default
returns-in_default c = record {
  some = said_if_any c.args.argument c.args.word.now c.args.line.now c.bounded_after.result
      c.in_default.not-Nothing c.bounded_after.ensures.some;
  none = λ none number is. c.bounded_after.ensures.none none number
      (numbered c.args.argument c.args.word.now c.args.line.now number c.in_default.not-Nothing is);
}
