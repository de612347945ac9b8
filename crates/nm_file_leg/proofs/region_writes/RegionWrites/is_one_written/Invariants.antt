-- None of the regions before this one was written.
use Rattle.std.proofs.Common.{◌-◌, ◌≤◌}
use Rattle.nm_file_leg.specs.Remembered.{WritesNone}
use Rattle.nm_file_leg.proofs.region_writes.RegionWrites.is_one_written.Given as goal

abbrev pub invariant-loop-region : goal.invariant-loop-region
invariant-loop-region l = record {
  behind : l.from ≤ l.region;
  none : WritesNone l.from l.region l.self;
}

abbrev pub decreases-loop-region : goal.decreases-loop-region
decreases-loop-region l = l.until - l.region
