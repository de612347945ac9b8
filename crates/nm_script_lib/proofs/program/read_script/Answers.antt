-- Why a text is no script is why the input is none.
use Rattle.std.proofs.Common.{◌≡◌, ap, Err}
use Rattle.nm_script_lib.specs.RunErrors.{error_of_parse}
use Rattle.nm_script_lib.proofs.EndLaws.{cannot_read, if_err}
use Rattle.nm_script_lib.proofs.program.read_script.Goals as goal

pub returns-in_err-script-clause-cause : goal.returns-in_err-script-clause-cause
returns-in_err-script-clause-cause g c =
    let read = rw c.deref.ensures.value at c.in_err-script.ensures.named in
    let script = rw c.deref.ensures.value at c.in_err-script.ensures.script in
    if_err _ _ (λ s. s ≡ error_of_parse c.in_err-script.field-0.0)
    c.from_residual-in_err-script.ensures.1
    (λ s is. cannot_read _ _ c.in_ok-text.text.items c.in_err-script.field-0.0 s is
    c.in_ok-text.ensures
    (λ n same. read n (ap Err same)) script)
