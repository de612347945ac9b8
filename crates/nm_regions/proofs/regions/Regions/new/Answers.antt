use Rattle.nm_regions.proofs.Opened.{sound-opened}
use Rattle.nm_regions.proofs.regions.Regions.new.Goals as goal

pub invariant_of-result : goal.invariant_of-result
invariant_of-result c = rw (c.in_ok-open_legs.ensures.ok, c.in_ok-no_writes.ensures.ok)
    (sound-opened c.args.blocks c.args.region c.args.in_sync.now c.requires.sizes)
