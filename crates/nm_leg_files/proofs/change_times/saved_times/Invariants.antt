use Rattle.std.proofs.Common.{◌≡◌, ◌≤◌, ℕ, length, slice_index}
use Rattle.nm_leg_files.specs.SavedTimes.{AreSavedTimes}
use Rattle.nm_leg_files.proofs.change_times.saved_times.Given as goal

-- the legs so far are told, and the others are as they were read
abbrev pub invariant-legs : goal.invariant-legs
invariant-legs l =
    (length l.saved ≡ 8) × AreSavedTimes l.leg l.ended l.last l.out l.saved
    × ((leg : ℕ) → l.leg ≤ leg → slice_index l.saved leg ≡ slice_index l.ended leg)
