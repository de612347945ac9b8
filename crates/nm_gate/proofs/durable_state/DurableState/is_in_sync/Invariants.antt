use Rattle.std.proofs.Common.{◌≡◌, ℕ, ◌<◌, ◌||◌, true}
use Rattle.nm_gate.specs.Durable.{is_lacking, is_named}
use Rattle.nm_gate.specs.Gate.{IsInSync}
use Rattle.nm_gate.proofs.durable_state.DurableState.is_in_sync.Given as goal

-- each leg so far that is covered is in sync
abbrev pub invariant-legs : goal.invariant-legs
invariant-legs g l = (k : ℕ) → k < l.leg → (is_named k l.self || is_lacking k l.self) ≡ true → IsInSync k l.stripe
