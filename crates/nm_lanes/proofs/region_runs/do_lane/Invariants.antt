-- The runs before these are done.
use Rattle.std.proofs.Common.{◌≡◌, ℕ, ◌+◌, ◌≤◌, ◌<◌, length, take, drop}
use Rattle.nm_geometry.specs.Geometry.{block_in_stripe}
use Rattle.nm_lanes.specs.Fillings.{filling, target_of}
use Rattle.nm_lanes.specs.PieceRanges.{block_of}
use Rattle.nm_lanes.proofs.RunLaneLemmas.{SoFar}
use Rattle.nm_lanes.proofs.region_runs.do_lane.Given as goal

abbrev pub invariant-loop-left : goal.invariant-loop-left
invariant-loop-left g l = record {
  far : SoFar g.D.Lane.follows l.fn.call.caller.now.shape.now l.fn.region.pieces.is_read l.fn.region.stripe (filling l.fn.call.caller.now.shape.now l.fn.region.pieces l.fn.cuts) l.left (drop l.number l.cuts) (take l.from l.into) l.fn.lane l.lane;
  read : l.left.is_read ≡ l.fn.region.pieces.is_read;
  target : l.from + target_of l.left ≡ length l.into;
  long : length l.into ≡ length l.fn.into;
  begins : block_of l.fn.region.pieces ≤ block_of l.left;
  ends : block_of l.left + l.left.count ≡ block_of l.fn.region.pieces + l.fn.region.pieces.count;
  few : l.number + l.left.count ≤ l.fn.region.pieces.count;
  follow : (at : ℕ) → at < l.left.count → l.block + at ≡ block_in_stripe (block_of l.left + at) l.fn.call.caller.now.shape.now;
  low : l.block ≤ block_of l.left;
}

abbrev pub decreases-loop-left : goal.decreases-loop-left
decreases-loop-left g l = l.left.count
