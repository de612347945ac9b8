use Rattle.std.proofs.Common.{Err}
use Rattle.nm_script_lib.proofs.EndLaws.{reported_prefix}
use Rattle.nm_script_lib.proofs.program.run_script.Goals as goal

pub returns-in-Err : goal.returns-in-Err
returns-in-Err g c = record {
  run_result = Err c.in-Err.error;
  exits = c.status.ensures;
  ended = c.in-Err.ensures;
  reported = reported_prefix c.report.result _ _ _ c.report.ensures.ok c.report.ensures.err;
}
