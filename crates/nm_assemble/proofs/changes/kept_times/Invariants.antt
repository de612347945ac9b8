use Rattle.std.proofs.Common.{◌≡◌, ◌≤◌, ℕ, length, slice_index}
use Rattle.nm_assemble.specs.Changes.{KeepsTimes}
use Rattle.nm_assemble.proofs.changes.kept_times.Given as goal

-- the legs so far are told, and the others are as before
abbrev pub invariant-legs : goal.invariant-legs
invariant-legs l =
    (length l.new ≡ 8) × KeepsTimes l.leg l.own l.old l.new
    × ((leg : ℕ) → l.leg ≤ leg → slice_index l.new leg ≡ slice_index l.old leg)
