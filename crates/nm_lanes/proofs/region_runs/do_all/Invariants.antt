-- The rounds before this one are done.
use Rattle.std.proofs.Common.{◌≡◌, ◌+◌, ◌≤◌, length, take, drop}
use Rattle.nm_lanes.specs.Fillings.{filling, target_of}
use Rattle.nm_lanes.proofs.RunAllLemmas.{AllSoFar}
use Rattle.nm_lanes.proofs.region_runs.do_all.Given as goal

abbrev pub invariant-loop-left : goal.invariant-loop-left
invariant-loop-left g l = record {
  far : AllSoFar g.D.Lane.follows l.fn.call.caller.now.shape.now l.fn.pieces.is_read (filling l.fn.call.caller.now.shape.now l.fn.pieces l.fn.cuts) l.left (drop l.taken l.cuts) (take l.from l.into) l.fn.lanes l.lanes;
  read : l.left.is_read ≡ l.fn.pieces.is_read;
  taken : l.taken ≤ length l.cuts;
  target : l.from + target_of l.left ≡ length l.into;
  long : length l.into ≡ length l.fn.into;
  lanes : length l.lanes ≡ length l.fn.lanes;
}

abbrev pub decreases-loop-left : goal.decreases-loop-left
decreases-loop-left g l = l.left.count
