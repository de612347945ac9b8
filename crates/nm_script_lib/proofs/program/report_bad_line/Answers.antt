-- The message is written in three calls.
use Rattle.std.proofs.Common.{◌≡◌, ◌∙◌, decimal}
use Rattle.nm_script_lib.proofs.RunLaws.{on_err, err_then}
use Rattle.nm_script_lib.proofs.EndLaws.{line_first, line_second, line_third}
use Rattle.nm_script_lib.proofs.program.report_bad_line.Goals as goal

pub returns-in_err-send-clause-err : goal.returns-in_err-send-clause-err
returns-in_err-send-clause-err g c = on_err _ _
    (line_first c.args.line _ _ c.in_err-send.ensures.err)

pub returns-in_err-send-2-clause-err : goal.returns-in_err-send-2-clause-err
returns-in_err-send-2-clause-err g c =
    let digits : c.as_bytes.result.now ≡ decimal c.args.line = c.as_bytes.ensures.value ∙
    c.format.ensures.text in
    on_err _ _ (line_second c.args.line _ _ _ c.in_ok-send.ensures.ok
    (rw digits at c.in_err-send-2.ensures.err))

pub returns-clause-err : goal.returns-clause-err
returns-clause-err g c =
    let digits : c.as_bytes.result.now ≡ decimal c.args.line = c.as_bytes.ensures.value ∙
    c.format.ensures.text in
    err_then _ _ _ (line_third c.args.line _ _ _ _ c.in_ok-send.ensures.ok
    (rw digits at c.in_ok-send-2.ensures.ok)) c.send-3.ensures.err
