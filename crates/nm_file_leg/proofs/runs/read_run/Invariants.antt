-- The first bytes of the run are read.
use Rattle.std.proofs.Common.{◌≡◌, ◌-◌, ◌*◌, ◌/◌, ◌≤◌, true, length, take}
use Rattle.nm_file_leg.specs.Runs.{ReadsRun, run_places}
use Rattle.nm_file_leg.proofs.runs.read_run.Given as goal

abbrev pub invariant-loop-done : goal.invariant-loop-done
invariant-loop-done g l = record {
  long : length l.into ≡ length l.fn.into;
  most : l.done ≤ length l.into;
  whole : l.done ≡ 512 * (l.done / 512);
  reads : ReadsRun g.M.Medium.honest true (run_places l.fn.stripe l.fn.shape l.fn.at) (g.M.Medium.held l.fn.medium) (g.M.Medium.held l.medium) (take l.done l.into);
}

abbrev pub decreases-loop-done : goal.decreases-loop-done
decreases-loop-done g l = length l.into - l.done
