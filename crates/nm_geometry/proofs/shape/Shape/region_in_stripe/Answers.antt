use Rattle.std.proofs.Common.{◌<◌}
use Rattle.nm_geometry.specs.Inside.{geometry_of}
use Rattle.nm_geometry.proofs.Places.{region-inside}
use Rattle.nm_geometry.proofs.shape.Shape.region_in_stripe.Goals as goal

pub returns-clause-inside : goal.returns-clause-inside
returns-clause-inside c =
    let block : c.args.block < c.self.inside.blocks = rw (← c.self.view_is) at c.requires.block in
    rw (c.region_of.ensures.region, ← c.self.view_is) (region-inside (geometry_of c.self.inside) c.args.block c.self.invariant block)
