use Rattle.std.proofs.Common.{◌≡◌, ℕ, ◌<◌, true}
use Rattle.nm_gate.specs.Durable.{is_named}
use Rattle.nm_gate.specs.Gate.{IsInSync}
use Rattle.nm_gate.proofs.durable_state.DurableState.is_saved.Given as goal

-- each leg so far that may be called in sync is
abbrev pub invariant-legs : goal.invariant-legs
invariant-legs g l = (k : ℕ) → k < l.leg → is_named k l.self ≡ true → IsInSync k l.stripe
