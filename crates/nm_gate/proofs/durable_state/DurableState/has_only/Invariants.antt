use Rattle.std.proofs.Common.{◌≡◌, ℕ, ◌<◌, true, false, slice_index_or}
use Rattle.nm_gate.proofs.durable_state.DurableState.has_only.Given as goal

-- each mark so far is there
abbrev pub invariant-spans : goal.invariant-spans
invariant-spans l =
    (k : ℕ) → k < l.span → slice_index_or l.self.marked k false ≡ true → slice_index_or l.marked k false ≡ true
