-- A script's numbers are in range, and its opening and its steps are of its stripe.
use Rattle.nm_script_lib.proofs.Inside.{script_in_range, opening_fits, script_fits}
use Rattle.nm_script_lib.proofs.program.read_and_run.Goals as goal

pub run-requires-clause-range : goal.run-requires-clause-range
run-requires-clause-range g c = script_in_range _ _ _ _ _ c.in_ok-script.ensures.ok.script

pub run-requires-clause-fits : goal.run-requires-clause-fits
run-requires-clause-fits g c = opening_fits _ _ _ _ _ c.in_ok-script.ensures.ok.script

pub run-requires-clause-inside : goal.run-requires-clause-inside
run-requires-clause-inside g c = script_fits _ _ _ _ _ c.in_ok-script.ensures.ok.script
