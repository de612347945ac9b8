-- One glance more is looked at.
use Rattle.std.proofs.Common.{rules}
use Rattle.nm_mirror.proofs.GlanceLemmas.{seen-before, seen-now}
use Rattle.nm_mirror.proofs.glance.look_once.Goals as goal

pub look-requires : goal.look-requires
look-requires g c =
    seen-before g.row.L.Denot (λ lock. lock.number) c.args.locks.now c.loop-place.glances
    c.loop-place.place c.index-locks-place.result c.index-glances-place.result
    (search rules) c.index-locks-place.is c.loop-place.invariant

pub loop-place-preserved : goal.loop-place-preserved
loop-place-preserved g c =
    seen-now g.row.L.Denot (λ lock. lock.number) c.args.locks.now c.loop-place.glances
    c.loop-place.place c.index-locks-place.result c.look.new.self
    (search rules) c.index-locks-place.is c.loop-place.invariant c.look.ensures
