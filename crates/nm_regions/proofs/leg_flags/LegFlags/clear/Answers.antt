use Rattle.std.proofs.Common.{◌≡◌, false, true, get_or, ap, ◌∙◌}
use Rattle.nm_regions.specs.LegFlags.{LegRegions}
use Rattle.nm_regions.proofs.Walking.{count-some, linked-cleared, linked-cleared-first}
use Rattle.nm_regions.proofs.leg_flags.LegFlags.clear.Goals as goal
use Rattle.nm_regions.proofs.leg_flags.LegFlags.clear.Goals.{in-Some, in-None}

pub overflow_sub-self : goal.overflow_sub-self
overflow_sub-self c =
    let flags = ap (λ (leg : LegRegions). leg.behind) c.self.view_is in
    let is : get_or c.self.inside.behind.items c.args.region false ≡ true =
    rw flags c.requires.behind in
    let some = count-some c.self.inside.out c.self.inside.behind.items c.self.inside.count
    c.self.inside.head c.self.inside.next.items c.args.region c.self.invariant is in
    elim c.match-last_below.branch [
      | in-Some w ↦ rw w.self-inside-is some
      | in-None w ↦ rw w.self-inside-is some
    ]

pub invariant_of-self : goal.invariant_of-self
invariant_of-self c =
    let flags = ap (λ (leg : LegRegions). leg.behind) c.self.view_is in
    let attached = ap (λ (leg : LegRegions). leg.out) c.self.view_is ∙ c.requires.attached in
    let is : get_or c.self.inside.behind.items c.args.region false ≡ true =
    rw flags c.requires.behind in
    elim c.match-last_below.branch [
      | in-Some w ↦ rw w.self-inside-is (linked-cleared c.self.inside.out
          c.self.inside.behind.items c.self.inside.count c.self.inside.head
          c.self.inside.next.items c.args.region w.in-Some.last c.index-next.result.now
          c.self.invariant attached is (rw flags w.in-Some.ensures) c.index-next.ensures)
      | in-None w ↦ rw w.self-inside-is (linked-cleared-first c.self.inside.out
          c.self.inside.behind.items c.self.inside.count c.self.inside.head
          c.self.inside.next.items c.args.region c.index-next.result.now c.self.invariant
          attached is (rw flags w.in-None.ensures) c.index-next.ensures)
    ]
