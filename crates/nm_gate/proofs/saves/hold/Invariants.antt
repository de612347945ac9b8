use Rattle.std.proofs.Common.{◌≡◌, ℕ, ◌<◌, false, length, slice_index_or}
use Rattle.nm_gate.proofs.saves.hold.Given as goal

-- each mark so far is the other's
abbrev pub invariant-spans : goal.invariant-spans
invariant-spans l =
    (length l.marks ≡ length l.fn.marks)
    × ((span : ℕ) → span < l.span → slice_index_or l.marks span false ≡ slice_index_or l.marked span false)
