-- One glance more tells nothing; once all were looked at, each is at the stripe of its place.
use Rattle.std.proofs.Common.{rules}
use Rattle.nm_mirror.proofs.GlanceLemmas.{none-told, nothing-more, told-in-order}
use Rattle.nm_mirror.proofs.mirror.Mirror.glance_with.Goals as goal

pub loop-lock-preserved : goal.loop-lock-preserved
loop-lock-preserved g c =
    let more = nothing-more c.loop-lock.all.items in
    search (rules, more)

pub look_all-requires : goal.look_all-requires
look_all-requires g c =
    none-told g.row.L.Denot (λ lock. lock.number) c.deref.result.now c.as_mut_slice.result.now
    (search rules) (search rules)

pub returns-clause-each : goal.returns-clause-each
returns-clause-each g c =
    let each = told-in-order g.row.L.Denot in
    search (rules, each)
