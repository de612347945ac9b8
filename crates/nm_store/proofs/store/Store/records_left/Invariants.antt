-- The blocks so far, and those of the runs still to come, are all.
use Rattle.std.proofs.Common.{◌≡◌, ◌+◌, ◌*◌, ◌≤◌, length, drop}
use Rattle.nm_fanout.specs.Runs.{flat}
use Rattle.nm_store.proofs.store.Store.records_left.Given as goal

abbrev pub invariant-loop-place : goal.invariant-loop-place
invariant-loop-place g l = record {
  few : l.blocks ≤ 128 * l.place;
  left : l.blocks + length (flat (drop l.place l.self-inside.records)) ≡ length (flat l.self-inside.records);
}
