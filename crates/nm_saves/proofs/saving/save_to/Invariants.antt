use Rattle.std.proofs.Common.{◌≡◌, ◌≤◌, ℕ, length, false}
use Rattle.nm_geometry.specs.LegSets.{has}
use Rattle.nm_saves.specs.Errors.{KeepsErrors}
use Rattle.nm_saves.specs.Files.{SavesTo, round_of}
use Rattle.nm_saves.proofs.saving.save_to.Given as goal

-- the round has passed the legs so far, failed beside no other, and keeps the first errors
abbrev pub invariant-legs : goal.invariant-legs
invariant-legs g l =
    (length l.failed ≡ 8)
    × SavesTo l.leg g.F.SlotFile.honest (round_of l.next l.to l.failed) l.initial.files l.files
    × ((leg : ℕ) → l.leg ≤ leg → has leg l.failed ≡ false)
    × KeepsErrors l.failed l.initial.errors l.errors
    × (length l.errors ≡ 8)
