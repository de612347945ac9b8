use Rattle.std.proofs.Common.{arith}
use Rattle.nm_regions.proofs.Linking.{count-le}
use Rattle.nm_regions.proofs.leg_flags.LegFlags.behind_count.Goals as goal

pub returns-clause-most : goal.returns-clause-most
returns-clause-most c = omega (
  arith,
  count-le c.self.inside.behind.items,
  c.self.invariant.counted,
  c.self.invariant.few,
)
