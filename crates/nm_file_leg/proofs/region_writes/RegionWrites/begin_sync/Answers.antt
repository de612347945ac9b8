-- The next period runs.
use Rattle.std.proofs.Common.{◌+◌, refl}
use Rattle.nm_file_leg.proofs.PeriodLemmas.{begins-next}
use Rattle.nm_file_leg.proofs.region_writes.RegionWrites.begin_sync.Goals as goal

pub returns : goal.returns
returns c =
    rw (← c.self.view_is)
    (begins-next _ _ (record { running = c.self.inside.period; covered = c.self.inside.covered }) (c.self.inside.period + 1) _ _ refl)
