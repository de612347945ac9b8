use Rattle.std.proofs.Common.{◌<◌, length, refl, arith}
use Rattle.nm_replay.proofs.Consistency.{consistent-empty, consistent-at, consistent-more}
use Rattle.nm_replay.proofs.history.check.Goals as goal

pub loop-index-init : goal.loop-index-init
loop-index-init c = consistent-empty

pub returns-then-not-may_follow : goal.returns-then-not-may_follow
returns-then-not-may_follow c =
    let inside : c.loop-index.index < length c.args.entries.now = omega arith in
    (λ yes. absurd (cc), λ consistent. c.if-not-may_follow.ensures.1 (consistent-at c.args.entries.now c.loop-index.index _ inside consistent))

pub loop-index-preserved : goal.loop-index-preserved
loop-index-preserved c =
    let inside : c.loop-index.index < length c.args.entries.now = omega arith in
    consistent-more c.args.entries.now c.loop-index.index _ inside c.loop-index.invariant (c.if-not-may_follow.ensures.0 refl)
