-- The first bytes of the run were found.
use Rattle.std.proofs.Common.{◌≡◌, ◌-◌, ◌*◌, ◌/◌, ◌≤◌, length, take}
use Rattle.nm_file_leg.specs.Called.{MovesRun}
use Rattle.nm_file_leg.specs.Runs.{run_places}
use Rattle.nm_file_leg.proofs.called_runs.read_called.Given as goal

abbrev pub invariant-loop-done : goal.invariant-loop-done
invariant-loop-done g l = record {
  long : length l.into ≡ length l.fn.into;
  most : l.done ≤ length l.into;
  whole : l.done ≡ 512 * (l.done / 512);
  finds : MovesRun (g.M.CalledMedium.found l.fn.medium) (run_places l.fn.stripe l.fn.shape l.fn.at) (take l.done l.into);
}

abbrev pub decreases-loop-done : goal.decreases-loop-done
decreases-loop-done g l = length l.into - l.done
