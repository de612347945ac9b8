use Rattle.std.proofs.Common.{sym}
use Rattle.nm_regions.proofs.Linking.{any-counted}
use Rattle.nm_regions.proofs.leg_flags.LegFlags.has_behind.Goals as goal

pub returns : goal.returns
returns c = rw (← c.self.view_is, c.self.invariant.counted)
    (sym (any-counted c.self.inside.behind.items))
