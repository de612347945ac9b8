use Rattle.nm_leg.specs.Leg.{leg_type}
use Rattle.nm_gate.specs.Settling.{SyncsLegs}
use Rattle.nm_gate.proofs.settling.sync_legs.Given as goal

-- so many legs are synced, or out
abbrev pub invariant-legs : goal.invariant-legs
invariant-legs g l =
    SyncsLegs (leg_type g.L.LegPart.model g.L.LegPart.honest) l.durable l.leg l.fn.stripe l.stripe
