use Rattle.std.proofs.Common.{◌<◌, length, ap}
use Rattle.nm_regions.specs.Inside.{table_of}
use Rattle.nm_regions.specs.Table.{RegionTable}
use Rattle.nm_regions.proofs.Left.{parts-are}
use Rattle.nm_regions.proofs.Copies.{copied-le}
use Rattle.nm_regions.proofs.regions.Regions.blocks_behind.Goals as goal

pub overflow_sub-result : goal.overflow_sub-result
overflow_sub-result c =
    let within : c.args.leg < length c.self.inside.legs.items = rw
    (ap (λ (t : RegionTable). t.legs) c.self.view_is) c.requires.leg in
    (parts-are c.args.leg c.behind_count.result c.blocks_short.result c.index-flags.result.now
    (table_of c.self.inside) c.self.invariant within c.index-flags.ensures
    c.behind_count.ensures.count (rw (← c.self.view_is) at c.blocks_short.ensures)).lacks

pub returns-clause-blocks : goal.returns-clause-blocks
returns-clause-blocks c =
    let within : c.args.leg < length c.self.inside.legs.items = rw
    (ap (λ (t : RegionTable). t.legs) c.self.view_is) c.requires.leg in
    rw (← c.self.view_is) (parts-are c.args.leg c.behind_count.result c.blocks_short.result
    c.index-flags.result.now (table_of c.self.inside) c.self.invariant within
    c.index-flags.ensures c.behind_count.ensures.count (rw (← c.self.view_is) at c.blocks_short.ensures)).rest

pub returns-clause-copied : goal.returns-clause-copied
returns-clause-copied c =
    let within : c.args.leg < length c.self.inside.legs.items = rw
    (ap (λ (t : RegionTable). t.legs) c.self.view_is) c.requires.leg in
    rw (
      ← c.self.view_is,
      (parts-are c.args.leg c.behind_count.result c.blocks_short.result
          c.index-flags.result.now (table_of c.self.inside) c.self.invariant within
          c.index-flags.ensures c.behind_count.ensures.count (rw (← c.self.view_is) at c.blocks_short.ensures)).rest,
    )
    (copied-le c.args.leg c.self.inside.copy (table_of c.self.inside) c.self.invariant.copy)
