-- What the passes so far counted, each less than 2^64.
use Rattle.std.proofs.Common.{◌≡◌, ◌-◌, ◌*◌, ◌^◌, ◌≤◌, take}
use Rattle.nm_mirror.specs.Closing.{count_in_all}
use Rattle.nm_mirror.proofs.closing.count_in_all.Given as goal

abbrev pub invariant-loop-pass : goal.invariant-loop-pass
invariant-loop-pass g l =
    (l.sum ≡ count_in_all l.stripe (take l.pass-index l.passes)) × (l.sum ≤ l.pass-index * (2 ^ 64 - 1))
