-- The cursors before this one are moved.
use Rattle.std.proofs.Common.{◌-◌, ◌≤◌}
use Rattle.nm_file_leg.specs.Remembered.{Changes, cursor_moved}
use Rattle.nm_file_leg.proofs.region_writes.move_cursors.Given as goal

abbrev pub invariant-loop-place : goal.invariant-loop-place
invariant-loop-place l = record {
  order : l.from ≤ l.place;
  most : l.place ≤ l.until;
  changes : Changes (cursor_moved l.at l.end) l.from l.place l.fn.cursors l.cursors;
}

abbrev pub decreases-loop-place : goal.decreases-loop-place
decreases-loop-place l = l.until - l.place
