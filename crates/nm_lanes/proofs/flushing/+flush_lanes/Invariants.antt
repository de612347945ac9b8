-- The lanes are fewer each time.
use Rattle.std.proofs.Common.{length}
use Rattle.nm_lanes.proofs.flushing.+flush_lanes.Given as goal

abbrev pub decreases-flush_lanes : goal.decreases-flush_lanes
decreases-flush_lanes g l = length l.lanes.now
