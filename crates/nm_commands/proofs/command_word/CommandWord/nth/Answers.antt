-- Each row is in the table.
use Rattle.nm_commands.proofs.Lines.{is_row}
use Rattle.nm_commands.proofs.command_word.CommandWord.nth.Goals as goal

pub returns-then-place-lt-ROWS-clause-all : goal.returns-then-place-lt-ROWS-clause-all
returns-then-place-lt-ROWS-clause-all c word = is_row word

pub returns-else-place-lt-ROWS-clause-all : goal.returns-else-place-lt-ROWS-clause-all
returns-else-place-lt-ROWS-clause-all c word = is_row word
