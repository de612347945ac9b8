-- The entries so far are consistent, and the place of the last on each block is noted.
use Rattle.std.proofs.Common.{◌≡◌, ◌<◌, replicate, length, refl, arith}
use Rattle.nm_replay.proofs.Consistency.{consistent-empty, consistent-at, consistent-more}
use Rattle.nm_replay.proofs.Places.{zeros, none_marked, within_marked, last_marked}
use Rattle.nm_replay.proofs.history.check_indexed.Goals as goal

pub loop-index-init : goal.loop-index-init
loop-index-init c =
    let places = c.in_ok-places.places.items in
    let cleared : places ≡ replicate c.args.blocks 0 = c.in_ok-places.ensures.ok in
    record {
      consistent = consistent-empty;
      within = λ b. let none = zeros c.args.blocks b in rw (cleared, none) (omega arith);
      last = λ b within. none_marked places c.args.blocks c.args.entries.now cleared b;
    }

pub returns-then-not-may_follow-clause-ok : goal.returns-then-not-may_follow-clause-ok
returns-then-not-may_follow-clause-ok c =
    let inside : c.loop-index.index < length c.args.entries.now = omega arith in (
      λ passes. absurd (cc),
      λ consistent. c.if-not-may_follow.ensures.1
          (consistent-at c.args.entries.now c.loop-index.index _ inside consistent),
    )

pub loop-index-preserved : goal.loop-index-preserved
loop-index-preserved c =
    let inside : c.loop-index.index < length c.args.entries.now = omega arith in
    record {
      consistent = consistent-more c.args.entries.now c.loop-index.index _ inside
          c.loop-index.invariant.consistent (c.if-not-may_follow.ensures.0 refl);
      within = within_marked c.loop-index.places.items c.loop-index.index _ (omega arith)
          c.loop-index.invariant.within;
      last = last_marked c.args.entries.now c.loop-index.places.items c.loop-index.index _ inside
          (omega arith) c.loop-index.invariant.last;
    }
