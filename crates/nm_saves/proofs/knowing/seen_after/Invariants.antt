use Rattle.std.proofs.Common.{◌≡◌, ◌≤◌, ℕ, length, slice_index}
use Rattle.nm_saves.specs.Files.{IsSeenAfter, round_of}
use Rattle.nm_saves.proofs.knowing.seen_after.Given as goal

-- the legs so far are told, and the others are as before
abbrev pub invariant-legs : goal.invariant-legs
invariant-legs l =
    (length l.seen ≡ 8)
    × IsSeenAfter l.leg l.named (round_of l.next l.others l.lacking) l.seen
    × ((leg : ℕ) → l.leg ≤ leg → slice_index l.seen leg ≡ slice_index l.next.seen leg)
