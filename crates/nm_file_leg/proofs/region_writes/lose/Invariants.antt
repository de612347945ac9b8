-- The cursors before this one are put, and the others are as they were.
use Rattle.std.proofs.Common.{◌≡◌, ℕ, ◌-◌, ◌*◌, ◌<◌, ◌≤◌, if◌then◌else◌, nat_lt, length, get_or}
use Rattle.nm_file_leg.proofs.region_writes.lose.Given as goal

abbrev pub invariant-loop-place : goal.invariant-loop-place
invariant-loop-place l = record {
  long : length l.cursors ≡ length l.fn.cursors;
  lost : (r : ℕ) → r < l.place → get_or l.cursors r 0
      ≡ (if nat_lt l.covered (get_or l.written_in r 0) then r * l.region else get_or l.fn.cursors r 0);
  others : (r : ℕ) → l.place ≤ r → get_or l.cursors r 0 ≡ get_or l.fn.cursors r 0;
}

abbrev pub decreases-loop-place : goal.decreases-loop-place
decreases-loop-place l = length l.cursors - l.place
