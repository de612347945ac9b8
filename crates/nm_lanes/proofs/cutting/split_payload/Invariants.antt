-- The runs before these are cut.
use Rattle.std.proofs.Common.{◌≡◌, ◌+◌, ◌≤◌, length, vec_len, vec_capacity}
use Rattle.nm_geometry.specs.Pieces.{touched}
use Rattle.nm_lanes.specs.PieceRanges.{runs_in_pieces}
use Rattle.nm_lanes.proofs.CutLemmas.{HasCut}
use Rattle.nm_lanes.proofs.cutting.split_payload.Given as goal

abbrev pub invariant-loop-left : goal.invariant-loop-left
invariant-loop-left l = record {
  cut : HasCut l.shape l.fn.pieces l.left l.fn.payload l.writes.items l.rest;
  range : l.left.range ≡ l.fn.pieces.range;
  inside : l.left.first + l.left.count ≤ touched l.fn.pieces.range;
  count : vec_len l.writes + length (runs_in_pieces l.shape l.left) ≤ vec_capacity l.writes;
}

abbrev pub decreases-loop-left : goal.decreases-loop-left
decreases-loop-left l = l.left.count
