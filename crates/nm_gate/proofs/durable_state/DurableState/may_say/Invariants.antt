use Rattle.std.proofs.Common.{◌≡◌, ℕ, ◌<◌, true}
use Rattle.nm_gate.specs.Changes.{may_say}
use Rattle.nm_gate.proofs.durable_state.DurableState.may_say.Given as goal

-- it may be said of each leg so far
abbrev pub invariant-legs : goal.invariant-legs
invariant-legs g l = (k : ℕ) → k < l.leg → may_say l.stripe l.self l.claims k ≡ true
