-- What the counts say of some stripe, or of each.
use Rattle.std.proofs.Common.{arith}
use Rattle.nm_leg.specs.Leg.{leg_type}
use Rattle.nm_mirror.proofs.CountedLemmas.{last-of, stopped-of}
use Rattle.nm_mirror.proofs.mirror.Mirror.hindrance_to_fail.Goals as goal

pub returns-then-counts-gt0 : goal.returns-then-counts-gt0
returns-then-counts-gt0 g c =
    last-of (leg_type g.L.LegPart.model g.L.LegPart.honest) c.args.leg c.args.self.now.shape.stripes _ _ c.fail_leg-counts.ensures.each
    (omega (arith, c.if-counts-gt0.true))

pub returns-then-counts-gt0-2 : goal.returns-then-counts-gt0-2
returns-then-counts-gt0-2 g c = (
  omega (arith, c.if-counts-gt0-2.true),
  stopped-of (leg_type g.L.LegPart.model g.L.LegPart.honest) c.args.leg c.args.self.now.shape.stripes _ _ c.fail_leg-counts.ensures.each,
)
