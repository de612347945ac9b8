-- The cursors before this one are put, and the others are as they were.
use Rattle.std.proofs.Common.{◌≡◌, ℕ, ◌-◌, ◌*◌, ◌<◌, ◌≤◌, length, get_or}
use Rattle.nm_file_leg.proofs.region_writes.put_firsts.Given as goal

abbrev pub invariant-loop-place : goal.invariant-loop-place
invariant-loop-place l = record {
  order : l.from ≤ l.place;
  most : l.place ≤ l.until;
  long : length l.cursors ≡ length l.fn.cursors;
  firsts : (r : ℕ) → l.from ≤ r → r < l.place → get_or l.cursors r 0 ≡ r * l.region;
  before : (r : ℕ) → r < l.from → get_or l.cursors r 0 ≡ get_or l.fn.cursors r 0;
  behind : (r : ℕ) → l.place ≤ r → get_or l.cursors r 0 ≡ get_or l.fn.cursors r 0;
}

abbrev pub decreases-loop-place : goal.decreases-loop-place
decreases-loop-place l = l.until - l.place
