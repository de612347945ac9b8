use Rattle.std.proofs.Common.{◌≡◌, true, ap, length, replicate, rules}
use Rattle.nm_regions.specs.LegFlags.{LegRegions}
use Rattle.nm_regions.proofs.Linking.{linked-all}
use Rattle.nm_regions.proofs.leg_flags.LegFlags.mark_all.Goals as goal

pub invariant_of-self : goal.invariant_of-self
invariant_of-self c =
    let out : c.self.inside.out ≡ true = rw
    (ap (λ (leg : LegRegions). leg.out) c.self.view_is) c.requires.out in
    let all : c.fill.new.self.items ≡ replicate (length c.self.inside.behind.items) true =
    search rules in
    let len : c.len.result ≡ length c.self.inside.behind.items = search rules in
    rw (all, len) (linked-all c.self.inside.out c.self.inside.behind.items c.self.inside.count
    c.self.inside.head c.self.inside.next.items c.self.invariant out)
