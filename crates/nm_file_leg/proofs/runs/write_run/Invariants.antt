-- The first bytes of the run are written.
use Rattle.std.proofs.Common.{◌≡◌, ◌-◌, ◌*◌, ◌/◌, ◌≤◌, true, length, take}
use Rattle.nm_file_leg.specs.Runs.{WritesRun, run_places}
use Rattle.nm_file_leg.proofs.runs.write_run.Given as goal

abbrev pub invariant-loop-done : goal.invariant-loop-done
invariant-loop-done g l = record {
  most : l.done ≤ length l.fn.bytes;
  whole : l.done ≡ 512 * (l.done / 512);
  writes : WritesRun g.M.Medium.honest true (run_places l.fn.stripe l.fn.shape l.fn.at) (take l.done l.fn.bytes) (g.M.Medium.held l.fn.medium) (g.M.Medium.held l.medium);
}

abbrev pub decreases-loop-done : goal.decreases-loop-done
decreases-loop-done g l = length l.fn.bytes - l.done
