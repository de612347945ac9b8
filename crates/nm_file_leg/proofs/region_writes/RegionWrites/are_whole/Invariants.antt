-- The regions before this one are whole.
use Rattle.std.proofs.Common.{◌-◌, ◌≤◌}
use Rattle.nm_file_leg.specs.Remembered.{AreWhole}
use Rattle.nm_file_leg.proofs.region_writes.RegionWrites.are_whole.Given as goal

abbrev pub invariant-loop-region : goal.invariant-loop-region
invariant-loop-region l = record {
  behind : l.from ≤ l.region;
  whole : AreWhole l.from l.region l.self;
}

abbrev pub decreases-loop-region : goal.decreases-loop-region
decreases-loop-region l = l.until - l.region
