use Rattle.std.proofs.Common.{refl}
use Rattle.nm_commands.proofs.Rows.{is_table}
use Rattle.nm_commands.proofs.option_table.options.Goals as goal

pub returns : goal.returns
returns c = is_table _ refl refl refl refl refl
