use Rattle.std.proofs.Common.{◌≡◌, length}
use Rattle.nm_assemble.specs.Changes.{WereChanged}
use Rattle.nm_assemble.proofs.changes.changed_legs.Given as goal

-- the legs so far are told
abbrev pub invariant-legs : goal.invariant-legs
invariant-legs l = (length l.changed ≡ 8) × WereChanged l.leg l.newest l.legs l.changed
