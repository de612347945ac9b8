use Rattle.std.proofs.Common.{◌≡◌, false, length, replicate, rules}
use Rattle.nm_regions.proofs.Aside.{linked-aside}
use Rattle.nm_regions.proofs.leg_flags.LegFlags.set_aside.Goals as goal

pub invariant_of-self : goal.invariant_of-self
invariant_of-self c =
    let all : c.fill.new.self.items ≡ replicate (length c.self.inside.behind.items) false =
    search rules in
    rw all (linked-aside c.self.inside.out c.self.inside.behind.items c.self.inside.count
    c.self.inside.head c.self.inside.next.items c.self.invariant)
