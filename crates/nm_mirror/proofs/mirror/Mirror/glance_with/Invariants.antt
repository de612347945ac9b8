-- The glances so far tell nothing, and there is room for the others.
use Rattle.std.proofs.Common.{◌≡◌, ◌≤◌, vec_len, vec_capacity}
use Rattle.nm_mirror.proofs.GlanceLemmas.{TellNothing}
use Rattle.nm_mirror.proofs.mirror.Mirror.glance_with.Given as goal

abbrev pub invariant-loop-lock : goal.invariant-loop-lock
invariant-loop-lock g l =
    (vec_len l.all ≡ l.lock-index) × (vec_len l.self.locks ≤ vec_capacity l.all)
    × TellNothing l.all.items
