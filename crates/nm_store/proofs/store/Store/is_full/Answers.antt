-- There are as many runs as their blocks name.
use Rattle.std.proofs.Common.{rules}
use Rattle.nm_store.proofs.StoreLemmas.{runs-flat}
use Rattle.nm_store.proofs.store.Store.is_full.Goals as goal

pub returns : goal.returns
returns g c =
    let runs = runs-flat c.self.inside.records c.is_sound.ensures.in_order.runs in
    rw (← c.self.view_is) (search (rules, runs))
