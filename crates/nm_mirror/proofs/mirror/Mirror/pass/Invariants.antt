-- The parts so far are of their stripes and have counted and noted nothing, and there is room for the others.
use Rattle.std.proofs.Common.{◌≡◌, ◌≤◌, map, vec_len, vec_capacity}
use Rattle.nm_mirror.specs.Numbers.{AreInOrder}
use Rattle.nm_leg.specs.Leg.{leg_type}
use Rattle.nm_mirror.specs.Passes.{HasCountedNothing, HasNotedNothing}
use Rattle.nm_mirror.proofs.mirror.Mirror.pass.Given as goal

abbrev pub invariant-loop-lock : goal.invariant-loop-lock
invariant-loop-lock g l =
    (vec_len l.parts ≡ l.lock-index) × (vec_len l.self.locks ≤ vec_capacity l.parts) × HasCountedNothing l.parts.items
    × HasNotedNothing (leg_type g.L.LegPart.model g.L.LegPart.honest) l.parts.items
    × AreInOrder (map (λ lane. lane.part.stripe) l.parts.items)
