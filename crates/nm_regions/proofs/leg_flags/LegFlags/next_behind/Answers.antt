-- The match gives the lowest region behind from the place on, if one is there.
use Rattle.std.proofs.Common.{◌≡◌, ◌+◌, ◌≤◌, length, drop, min, ap, ◌∙◌, rules, arith}
use Rattle.nm_regions.specs.LegFlags.{LegRegions}
use Rattle.nm_regions.specs.Links.{before_lowest}
use Rattle.nm_regions.proofs.Walking.{link-leads, head-leads, behind_from, next-some, next-none, behind-clamped}
use Rattle.nm_regions.proofs.leg_flags.LegFlags.next_behind.Goals as goal
use Rattle.nm_regions.proofs.leg_flags.LegFlags.next_behind.Goals.{in-Some, in-None, After-min, Joined-last_below}

-- the place is within the regions, and what is behind from it on is so from `from` on
clamped : (c : After-min) → (c.min.result ≤ length c.self.inside.behind.items)
    × (behind_from c.min.result c.self.inside.behind.items ≡ behind_from c.args.from c.self.inside.behind.items)
clamped c =
    let all : c.len-regions.result ≡ length c.self.inside.behind.items = search rules in
    let place : c.min.result ≡ min c.args.from (length c.self.inside.behind.items) =
    c.min.ensures ∙ ap (min c.args.from) all in (
      omega (arith, place),
      ap (λ k. behind_from k c.self.inside.behind.items) place
          ∙ behind-clamped c.args.from c.self.inside.behind.items,
    )

-- the link of the last region behind below the place leads there, or the head where there is none
leads : (c : Joined-last_below) → c.match-last_below.next
    ≡ c.min.result + before_lowest (drop c.min.result c.self.inside.behind.items)
leads c =
    let flags = ap (λ (leg : LegRegions). leg.behind) c.self.view_is in
    let attached = ap (λ (leg : LegRegions). leg.out) c.self.view_is ∙ c.requires.attached in
    elim c.match-last_below.branch [
      | in-Some w ↦ w.next-is ∙ link-leads c.self.inside.out c.self.inside.behind.items
          c.self.inside.count c.self.inside.head c.self.inside.next.items c.min.result
          w.in-Some.last w.index.result.now c.self.invariant attached
          (rw flags w.in-Some.ensures) w.index.ensures
      | in-None w ↦ w.next-is ∙ head-leads c.self.inside.out c.self.inside.behind.items
          c.self.inside.count c.self.inside.head c.self.inside.next.items c.min.result
          c.self.invariant attached (rw flags w.in-None.ensures)
    ]

pub returns-then-next-regions : goal.returns-then-next-regions
returns-then-next-regions c =
    let at = goal.at.returns-then-next-regions c in
    rw (← c.self.view_is) (next-some c.min.result c.self.inside.behind.items c.match-last_below.next
    (clamped at.After-min).0 (leads at.Joined-last_below) (search rules) ∙ (clamped at.After-min).1)

pub returns-else-next-regions : goal.returns-else-next-regions
returns-else-next-regions c =
    let at = goal.at.returns-else-next-regions c in
    rw (← c.self.view_is) (next-none c.min.result c.self.inside.behind.items c.match-last_below.next
    (clamped at.After-min).0 (leads at.Joined-last_below) (search rules) ∙ (clamped at.After-min).1)
