-- The stripes that are touched are those of the runs.
use Rattle.std.proofs.Common.{◌≡◌, rules, arith, subst}
use Rattle.nm_geometry.specs.Pieces.{touched}
use Rattle.nm_lanes.specs.Flushes.{Touches, HasFlushed, HasFlushedSome}
use Rattle.nm_lanes.specs.Syncs.{InSpans}
use Rattle.nm_lanes.proofs.FlushLemmas.{flush-none, flush-as, flush_some-as}
use Rattle.nm_lanes.proofs.flushing.sync_by.Goals as goal

pub returns-then-pieces-eq0-clause-ok : goal.returns-then-pieces-eq0-clause-ok
returns-then-pieces-eq0-clause-ok g c =
    let none : touched (record { offset = c.args.offset; length = c.args.len }) ≡ 0 = search rules in
    let laws = g.met.D.Lane in
    flush-none g.D.Lane.follows laws.stays c.args.lanes.now c.args.caller.now.shape.now.legs (Touches c.args.caller.now.shape.now (record { offset = c.args.offset; length = c.args.len })) (λ stripe a. omega (arith, none, a.inside))

pub returns-in-Ok-clause-ok : goal.returns-in-Ok-clause-ok
returns-in-Ok-clause-ok g c =
    let shape = c.args.caller.now.shape.now in
    let spans = c.spans_around-spans.result in
    let did = flush-as g.D.Lane.follows (c.args.lanes.now, c.flush_spans.new.lanes) shape.legs (InSpans spans.low spans.first spans.end) (Touches shape c.range_inside-range.result)
    (λ stripe is. c.stripes_touched-first.ensures.only stripe (c.spans_around-spans.ensures.only stripe is)) (λ stripe is. c.spans_around-spans.ensures.some stripe (c.stripes_touched-first.ensures.touched stripe is)) c.in-Ok.ensures.ok in
    subst (λ r. HasFlushed g.D.Lane.follows shape.legs (Touches shape r) (c.args.lanes.now, c.flush_spans.new.lanes)) c.range_inside-range.ensures.range did

pub returns-in-Err-clause-err : goal.returns-in-Err-clause-err
returns-in-Err-clause-err g c =
    let shape = c.args.caller.now.shape.now in
    let spans = c.spans_around-spans.result in
    let some = flush_some-as g.D.Lane.follows (c.args.lanes.now, c.flush_spans.new.lanes) shape.legs (InSpans spans.low spans.first spans.end) (Touches shape c.range_inside-range.result) c.in-Err.cause
    (λ stripe is. c.stripes_touched-first.ensures.only stripe (c.spans_around-spans.ensures.only stripe is)) c.in-Err.ensures.err in
    subst (λ r. HasFlushedSome g.D.Lane.follows shape.legs (Touches shape r) (c.args.lanes.now, c.flush_spans.new.lanes) c.in-Err.cause) c.range_inside-range.ensures.range some
