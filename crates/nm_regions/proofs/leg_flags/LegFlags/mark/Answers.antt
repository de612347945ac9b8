use Rattle.std.proofs.Common.{◌≡◌, ◌<◌, true, length, ap, arith}
use Rattle.nm_regions.specs.LegFlags.{LegRegions}
use Rattle.nm_regions.proofs.Linking.{linked-marked, count-le, byte-is}
use Rattle.nm_regions.proofs.leg_flags.LegFlags.mark.Goals as goal

pub overflow_add-self : goal.overflow_add-self
overflow_add-self c =
    let most = count-le c.self.inside.behind.items in
    let few = c.self.invariant.few in
    let counted = c.self.invariant.counted in
    grind (arith, count-le)

pub invariant_of-self : goal.invariant_of-self
invariant_of-self c =
    let out : c.self.inside.out ≡ true = rw
    (ap (λ (leg : LegRegions). leg.out) c.self.view_is) c.requires.out in
    let within : c.args.region < length c.self.inside.behind.items = rw
    (ap (λ (leg : LegRegions). leg.behind) c.self.view_is) c.requires.within in
    rw (c.from.ensures, c.index.ensures, byte-is) (linked-marked c.self.inside.out
    c.self.inside.behind.items c.self.inside.count c.self.inside.head c.self.inside.next.items
    c.args.region c.index.result.now c.self.invariant out within)
