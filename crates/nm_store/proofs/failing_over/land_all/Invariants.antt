-- What is left to do makes the whole with what is done.
use Rattle.std.proofs.Common.{◌≡◌, ◌+◌, ◌≤◌, length}
use Rattle.nm_fanout.specs.Runs.{flat, runs_landed, unlanded_blocks}
use Rattle.nm_replay.specs.Kept.{kept_with}
use Rattle.nm_rules.specs.Lost.{landing}
use Rattle.nm_store.specs.Landing.{AreWords}
use Rattle.nm_store.proofs.failing_over.land_all.Given as goal

abbrev pub invariant-loop-place : goal.invariant-loop-place
invariant-loop-place l = record {
  number : l.number ≡ l.first + l.kept.total;
  few : length l.kept.last.entries ≤ l.kept.last.most;
  words : AreWords l.records;
  records : runs_landed l.number l.records ≡ runs_landed (l.first + l.fn.kept.total) l.fn.records;
  last : kept_with (landing l.number (flat l.records)) l.kept.last
      ≡ kept_with (landing (l.first + l.fn.kept.total) (flat l.fn.records)) l.fn.kept.last;
  total : l.kept.total + unlanded_blocks l.records ≡ l.fn.kept.total + unlanded_blocks l.fn.records;
}

abbrev pub decreases-loop-place : goal.decreases-loop-place
decreases-loop-place l = unlanded_blocks l.records
