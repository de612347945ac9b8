-- The first bytes of the run were written.
use Rattle.std.proofs.Common.{◌≡◌, ◌-◌, ◌*◌, ◌/◌, ◌≤◌, length, take}
use Rattle.nm_file_leg.specs.Called.{MovesRun, wrote_or_found}
use Rattle.nm_file_leg.specs.Runs.{run_places}
use Rattle.nm_file_leg.proofs.called_runs.write_called.Given as goal

abbrev pub invariant-loop-done : goal.invariant-loop-done
invariant-loop-done g l = record {
  most : l.done ≤ length l.fn.bytes;
  whole : l.done ≡ 512 * (l.done / 512);
  wrote : MovesRun (wrote_or_found (g.M.CalledMedium.found l.fn.medium) (g.M.CalledMedium.wrote l.fn.medium)) (run_places l.fn.stripe l.fn.shape l.fn.at) (take l.done l.fn.bytes);
}

abbrev pub decreases-loop-done : goal.decreases-loop-done
decreases-loop-done g l = length l.fn.bytes - l.done
