-- The flags of the legs so far, and room for the others.
use Rattle.std.proofs.Common.{◌≡◌, ◌≤◌, vec_len, vec_capacity}
use Rattle.nm_rules.specs.Opening.{bits_from}
use Rattle.nm_store.proofs.opening.flags_of.Given as goal

abbrev pub invariant-loop-leg : goal.invariant-loop-leg
invariant-loop-leg l =
    (l.flags.items ≡ bits_from l.bits l.leg 0) × (vec_len l.flags ≡ l.leg) × (l.legs ≤ vec_capacity l.flags)
