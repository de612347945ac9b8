use Rattle.std.proofs.Common.{◌∙◌, ◌≡◌, ap, ap₂}
use Rattle.clap.specs.Words.{App, app_of, with_rule}
use Rattle.nm_commands.specs.CommandLine.{nbdmirror, option_rules, program, with_rules}
use Rattle.nm_commands.proofs.command_line.command_line.Goals as goal

pub returns-clause-ok : goal.returns-clause-ok
returns-clause-ok c =
    let table = c.options.ensures in
    let rules = option_rules table.policies table.starts in
    let options : app_of c.in_ok-with_options.with_options ≡ with_rules program rules =
    c.in_ok-with_options.ensures.ok
    ∙ (ap (with_rules (app_of c.in_ok-program.program)) table.rules
    ∙ ap (λ (a : App). with_rules a rules) c.in_ok-program.ensures.ok) in
    let all : app_of c.in_ok-command.command ≡ nbdmirror table.policies table.starts =
    c.in_ok-command.ensures.shape c.legs.ensures.own
    ∙ ap₂ with_rule options c.legs.ensures.rule in
    (table.policies, table.known, (table.starts, table.known_starts, all))
