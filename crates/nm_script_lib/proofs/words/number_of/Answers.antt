use Rattle.std.proofs.Common.{◌≢◌, get_or, rules, ap, ◌∙◌}
use Rattle.nm_script_lib.specs.Reading.{number_of}
use Rattle.nm_script_lib.proofs.Numbers.{parsed_number, no_text_no_number}
use Rattle.nm_script_lib.proofs.words.number_of.Goals as goal

pub returns-in-Ok : goal.returns-in-Ok
returns-in-Ok c =
    let text = c.in-Ok.ensures.cases.0 in
    let plain : get_or c.in-Ok.text.now 0 0 ≢ 43 = search rules in
    c.ok.ensures.value
    ∙ parsed_number c.in-Ok.text.now c.parse.result c.parse.ensures.value.0 plain
    ∙ ap number_of text

pub returns-in-Err : goal.returns-in-Err
returns-in-Err c = no_text_no_number c.args.word.now c.in-Err.ensures.cases.0
