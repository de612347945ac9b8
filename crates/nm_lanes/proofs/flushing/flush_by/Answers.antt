-- All stripes are one run.
use Rattle.std.proofs.Common.{◌≡◌, rules, subst}
use Rattle.nm_lanes.specs.Flushes.{IsStripeOf, HasFlushed, HasFlushedSome}
use Rattle.nm_lanes.specs.Syncs.{InSpans}
use Rattle.nm_lanes.proofs.FlushLemmas.{flush-as, flush_some-as}
use Rattle.nm_lanes.proofs.SpanLemmas.{whole-span, span-whole}
use Rattle.nm_lanes.proofs.flushing.flush_by.Goals as goal

pub returns-in-Ok-clause-ok : goal.returns-in-Ok-clause-ok
returns-in-Ok-clause-ok g c =
    let shape = c.args.caller.now.shape.now in
    let stripes : c.shape.inside.stripes ≡ shape.stripes = search rules in
    let did = subst (λ n. HasFlushed g.D.Lane.follows shape.legs (InSpans 0 0 n) (c.args.lanes.now, c.flush_spans.new.lanes)) stripes c.in-Ok.ensures.ok in
    flush-as g.D.Lane.follows (c.args.lanes.now, c.flush_spans.new.lanes) shape.legs (InSpans 0 0 shape.stripes) (IsStripeOf shape) (λ stripe is. span-whole shape stripe is) (λ stripe is. whole-span shape stripe is) did

pub returns-in-Err-clause-err : goal.returns-in-Err-clause-err
returns-in-Err-clause-err g c =
    let shape = c.args.caller.now.shape.now in
    let stripes : c.shape.inside.stripes ≡ shape.stripes = search rules in
    let some = subst (λ n. HasFlushedSome g.D.Lane.follows shape.legs (InSpans 0 0 n) (c.args.lanes.now, c.flush_spans.new.lanes) c.in-Err.cause) stripes c.in-Err.ensures.err in
    flush_some-as g.D.Lane.follows (c.args.lanes.now, c.flush_spans.new.lanes) shape.legs (InSpans 0 0 shape.stripes) (IsStripeOf shape) c.in-Err.cause (λ stripe is. span-whole shape stripe is) some
