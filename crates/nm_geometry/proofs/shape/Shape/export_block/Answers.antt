-- The export's block of a stripe's block lies in the export, and so fits its type.
use Rattle.std.proofs.Common.{arith, ◌<◌}
use Rattle.nm_geometry.specs.Inside.{geometry_of}
use Rattle.nm_geometry.specs.Geometry.{stripe_blocks}
use Rattle.nm_geometry.proofs.Places.{lies-inside}
use Rattle.nm_geometry.proofs.shape.Shape.export_block.Goals as goal

pub returns-clause-inside : goal.returns-clause-inside
returns-clause-inside c =
    let stripe : c.args.stripe < c.self.inside.stripes = rw (← c.self.view_is) at c.requires.stripe in
    let number : c.args.number < stripe_blocks c.args.stripe (geometry_of c.self.inside) = rw (← c.self.view_is) at c.requires.number in
    rw (← c.self.view_is) ((lies-inside (geometry_of c.self.inside) c.args.stripe c.args.number c.self.invariant stripe).0 number)

pub overflow_add-result : goal.overflow_add-result
overflow_add-result c =
    let stripe : c.args.stripe < c.self.inside.stripes = rw (← c.self.view_is) at c.requires.stripe in
    let number : c.args.number < stripe_blocks c.args.stripe (geometry_of c.self.inside) = rw (← c.self.view_is) at c.requires.number in
    let inside = (lies-inside (geometry_of c.self.inside) c.args.stripe c.args.number c.self.invariant stripe).0 number in
    omega (arith, inside, c.self.invariant.most_blocks)
