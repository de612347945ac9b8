use Rattle.std.proofs.Common.{◌≡◌, take}
use Rattle.nm_replay.specs.Heads.{joined}
use Rattle.nm_replay.proofs.kept.joined.Given as goal

abbrev pub invariant-loop-place : goal.invariant-loop-place
invariant-loop-place l = l.entries.items ≡ joined (take l.place l.heads) l.bytes
