-- The counts are those of the runs without the leg, as far as the loop came.
use Rattle.std.proofs.Common.{◌≡◌}
use Rattle.nm_fanout.specs.Record.{without_leg}
use Rattle.nm_fanout.specs.Runs.{flat}
use Rattle.nm_fanout.proofs.Leaving.{mapped_to}
use Rattle.nm_store.specs.Counting.{counting}
use Rattle.nm_store.proofs.losing.finish_without.Given as goal

abbrev pub invariant-loop-place : goal.invariant-loop-place
invariant-loop-place l =
    l.regions ≡ counting (flat (mapped_to (without_leg l.leg) l.place l.records)) l.fn.regions
