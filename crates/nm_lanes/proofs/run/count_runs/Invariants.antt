-- The runs before these are counted.
use Rattle.std.proofs.Common.{◌≡◌, ◌+◌, ◌≤◌, length}
use Rattle.nm_geometry.specs.Pieces.{touched}
use Rattle.nm_lanes.specs.PieceRanges.{runs_in_pieces}
use Rattle.nm_lanes.proofs.run.count_runs.Given as goal

abbrev pub invariant-loop-left : goal.invariant-loop-left
invariant-loop-left l = record {
  range : l.left.range ≡ l.fn.pieces.range;
  inside : l.left.first + l.left.count ≤ touched l.fn.pieces.range;
  fit : l.runs + l.left.count ≤ l.fn.pieces.count;
  counted : l.runs + length (runs_in_pieces l.shape l.left) ≡ length (runs_in_pieces l.shape l.fn.pieces);
}

abbrev pub decreases-loop-left : goal.decreases-loop-left
decreases-loop-left l = l.left.count
