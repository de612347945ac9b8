-- The walk stays on regions behind, and each step passes over none.
use Rattle.std.proofs.Common.{◌<◌, length, ap, ◌∙◌, arith}
use Rattle.nm_regions.specs.LegFlags.{LegRegions}
use Rattle.nm_regions.proofs.Walking.{walk-begins, walk-on, next-behind}
use Rattle.nm_regions.proofs.leg_flags.LegFlags.last_below.Goals as goal

pub loop-self-init : goal.loop-self-init
loop-self-init c =
    let flags = ap (λ (leg : LegRegions). leg.behind) c.self.view_is in
    let attached = ap (λ (leg : LegRegions). leg.out) c.self.view_is ∙ c.requires.attached in
    let below = c.if-self-from.false in
    let within : c.self.inside.head < length c.self.inside.behind.items =
    rw flags (omega (arith, below, c.requires.within)) in
    record {
      below = below;
      behind = rw (← flags) (walk-begins c.self.inside.out c.self.inside.behind.items
          c.self.inside.count c.self.inside.head c.self.inside.next.items c.self.invariant
          attached within);
    }

pub loop-self-smaller : goal.loop-self-smaller
loop-self-smaller c =
    let flags = ap (λ (leg : LegRegions). leg.behind) c.self.view_is in
    let attached = ap (λ (leg : LegRegions). leg.out) c.self.view_is ∙ c.requires.attached in
    let next = walk-on c.self.inside.out c.self.inside.behind.items c.self.inside.count
    c.self.inside.head c.self.inside.next.items c.loop-self.last c.index-in-loop-self.result.now
    c.self.invariant attached (rw flags c.loop-self.invariant.behind) c.index-in-loop-self.ensures in
    let below = c.loop-self.invariant.below in
    omega (arith, next, below)

pub loop-self-preserved : goal.loop-self-preserved
loop-self-preserved c =
    let flags = ap (λ (leg : LegRegions). leg.behind) c.self.view_is in
    let attached = ap (λ (leg : LegRegions). leg.out) c.self.view_is ∙ c.requires.attached in
    let next = walk-on c.self.inside.out c.self.inside.behind.items c.self.inside.count
    c.self.inside.head c.self.inside.next.items c.loop-self.last c.index-in-loop-self.result.now
    c.self.invariant attached (rw flags c.loop-self.invariant.behind) c.index-in-loop-self.ensures in
    let same = walk-on c.self.inside.out c.self.inside.behind.items c.self.inside.count
    c.self.inside.head c.self.inside.next.items c.loop-self.last c.index.result.now
    c.self.invariant attached (rw flags c.loop-self.invariant.behind) c.index.ensures in
    let below : c.index-in-loop-self.result.now < c.args.from =
    omega (arith, next, same, c.loop-self-test.true) in
    record {
      below = below;
      behind = rw (← flags, next) (next-behind c.loop-self.last c.self.inside.behind.items
          (rw flags (omega (arith, below, rw flags at next, c.requires.within))));
    }

pub returns : goal.returns
returns c =
    let flags = ap (λ (leg : LegRegions). leg.behind) c.self.view_is in
    let attached = ap (λ (leg : LegRegions). leg.out) c.self.view_is ∙ c.requires.attached in
    let next = walk-on c.self.inside.out c.self.inside.behind.items c.self.inside.count
    c.self.inside.head c.self.inside.next.items c.loop-self.last c.index.result.now
    c.self.invariant attached (rw flags c.loop-self.invariant.behind) c.index.ensures in (
      c.loop-self.invariant.below,
      c.loop-self.invariant.behind,
      rw (← flags) (omega (arith, next, c.loop-self-test.false)),
    )
