use Rattle.std.proofs.Common.{◌≡◌, ◌<◌, ◌≤◌, ℕ, take, get_or, length}
use Rattle.nm_replay.specs.History.{Consistent, last_on}
use Rattle.nm_replay.specs.Following.{bytes_at}
use Rattle.nm_replay.proofs.history.check_indexed.Given as goal

abbrev pub invariant-loop-index : goal.invariant-loop-index
invariant-loop-index l = record {
  consistent : Consistent (take l.index l.entries);
  within : (b : ℕ) → get_or l.places.items b 0 ≤ l.index;
  last : (b : ℕ) → b < length l.places.items →
      last_on b (take l.index l.entries) ≡ bytes_at (get_or l.places.items b 0) l.entries;
}
