-- The places before this one are changed.
use Rattle.std.proofs.Common.{◌-◌, ◌≤◌}
use Rattle.nm_file_leg.specs.Remembered.{Changes}
use Rattle.nm_file_leg.proofs.region_writes.put_number.Given as goal

abbrev pub invariant-loop-place : goal.invariant-loop-place
invariant-loop-place l = record {
  order : l.from ≤ l.place;
  most : l.place ≤ l.until;
  changes : Changes (λ _. l.number) l.from l.place l.fn.numbers l.numbers;
}

abbrev pub decreases-loop-place : goal.decreases-loop-place
decreases-loop-place l = l.until - l.place
