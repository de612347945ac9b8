use Rattle.std.proofs.Common.{◌∙◌, ap, ap₂, sym}
use Rattle.std.specs.List.{fold}
use Rattle.std.proofs.lemmas.List.Folds.{fold-map}
use Rattle.std.proofs.lemmas.List.Sums.{fold_more}
use Rattle.std.proofs.lemmas.List.{take_all}
use Rattle.clap.specs.Words.{app_of, with_rule}
use Rattle.nm_commands.specs.OptionRows.{rule_of_row}
use Rattle.nm_commands.proofs.Rows.{with_row}
use Rattle.nm_commands.proofs.command_line.with_options.Goals as goal

pub loop-row-preserved : goal.loop-row-preserved
loop-row-preserved c =
    let rows = c.args.rows.now in
    let more = fold_more with_row (app_of c.args.program) rows c.loop-row.row-index _
    c.loop-row-test.true in
    c.in_ok-command.ensures.shape c.arg.ensures.own
    ∙ (ap₂ with_rule c.loop-row.invariant c.arg.ensures.rule ∙ sym more)

pub returns-clause-ok : goal.returns-clause-ok
returns-clause-ok c =
    let rows = c.args.rows.now in
    let start = app_of c.args.program in
    c.loop-row.invariant
    ∙ (ap (fold with_row start) (take_all c.loop-row.row-index rows c.loop-row-test.false)
    ∙ sym (fold-map with_rule rule_of_row start rows))
