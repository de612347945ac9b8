-- The source of an entry is that of its row.
use Rattle.std.proofs.Common.{◌≡◌, ◌∙◌, rules}
use Rattle.clap.specs.Words.{found_of, rows_of}
use Rattle.nm_commands.proofs.Said.{source-rows}
use Rattle.nm_commands.specs.Settings.{source_of}
use Rattle.nm_commands.proofs.values.is_named.Goals as goal

pub returns : goal.returns
returns c =
    let is : c.value_source.result ≡ source_of c.args.id.now (rows_of (found_of c.args.matches.now)) =
    c.value_source.ensures ∙ source-rows (found_of c.args.matches.now) c.args.id.now in
    rw (← is) (search rules)
