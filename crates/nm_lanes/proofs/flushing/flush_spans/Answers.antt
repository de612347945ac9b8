-- Both runs of lanes, or the end of the call in one of them.
use Rattle.std.proofs.Common.{◌≡◌, List, inl, inr, ◌+◌, ◌++◌, length, ap, ◌∙◌, arith}
use Rattle.nm_lanes.specs.declared.flushing.Spans.{Spans}
use Rattle.nm_lanes.specs.Syncs.{InSpans}
use Rattle.nm_lanes.proofs.SpanLemmas.{both-flushed, front-ended, back-ended}
use Rattle.nm_lanes.proofs.flushing.flush_spans.Goals as goal
use Rattle.nm_lanes.proofs.flushing.flush_spans.Goals.{After-split_at_mut-back}

-- the lanes in front, those passed over, those at the back and those past the end, where the spans have them
record AreCut {D : Type 0} (spans : Spans) (lanes front mid back past : List D) : Type 0 where
  whole : lanes ≡ front ++ (mid ++ (back ++ past))
  low : length front ≡ spans.low
  at : spans.first ≡ length front + length mid
  upto : spans.end ≡ spans.first + length back

cut : (g : _) (c : After-split_at_mut-back g) → AreCut c.args.spans c.args.lanes.now c.split_at_mut-front.result.0.now c.split_at_mut-rest.result.0.now c.split_at_mut-back.result.0.now c.split_at_mut-back.result.1.now
cut g c =
    let front = c.split_at_mut-front in
    let rest = c.split_at_mut-rest in
    let back = c.split_at_mut-back in
    record {
      whole = front.ensures.value ∙ ap (λ ls. front.result.0.now ++ ls) (rest.ensures.value ∙ ap (λ ls. rest.result.0.now ++ ls) back.ensures.value);
      low = front.ensures.front_len;
      at = omega (arith, front.ensures.front_len, rest.ensures.front_len, c.requires.order.0);
      upto = omega (arith, back.ensures.front_len, c.requires.order.1);
    }

pub returns-in-Err-clause-err : goal.returns-in-Err-clause-err
returns-in-Err-clause-err g c =
    let shape = c.args.call.now.caller.now.shape.now in
    let spans = c.args.spans in
    let front = c.split_at_mut-front.result.0.now in
    let rest = c.split_at_mut-rest.result.0.now in
    let back = c.split_at_mut-back.result in
    let is = cut g (goal.at.returns-in-Err-clause-err g c).After-split_at_mut-back in
    rw is.whole (front-ended g.D.Lane.follows g.met.D.Lane.stays shape.legs (InSpans spans.low spans.first spans.end) c.in-Err.cause front c.flush_lanes.new.lanes (rest ++ (back.0.now ++ back.1.now))
    (λ stripe lt. inl (omega (arith, lt, is.low))) c.in-Err.ensures.syncs)

pub returns-in-Ok-clause-ok : goal.returns-in-Ok-clause-ok
returns-in-Ok-clause-ok g c =
    let shape = c.args.call.now.caller.now.shape.now in
    let spans = c.args.spans in
    let front = c.split_at_mut-front.result.0.now in
    let rest = c.split_at_mut-rest.result.0.now in
    let back = c.split_at_mut-back.result in
    let laws = g.met.D.Lane in
    let is = cut g (goal.at.returns-in-Ok-clause-ok g c).After-split_at_mut-back in
    rw is.whole (both-flushed g.D.Lane.follows laws.stays laws.joins shape.legs spans.low spans.first spans.end front c.flush_lanes.new.lanes rest back.0.now c.flush_lanes-2.new.lanes back.1.now is.low is.at is.upto
    c.in_default.ensures.syncs c.in-Ok.ensures.syncs)

pub returns-in-Err-flush_lanes-clause-err : goal.returns-in-Err-flush_lanes-clause-err
returns-in-Err-flush_lanes-clause-err g c =
    let shape = c.args.call.now.caller.now.shape.now in
    let spans = c.args.spans in
    let front = c.split_at_mut-front.result.0.now in
    let rest = c.split_at_mut-rest.result.0.now in
    let back = c.split_at_mut-back.result in
    let is = cut g (goal.at.returns-in-Err-flush_lanes-clause-err g c).After-split_at_mut-back in
    rw is.whole (back-ended g.D.Lane.follows g.met.D.Lane.stays shape.legs spans.first (InSpans spans.low spans.first spans.end) c.in-Err-flush_lanes.cause front c.flush_lanes.new.lanes rest back.0.now c.flush_lanes-2.new.lanes
    back.1.now is.at (λ stripe lt. inl (omega (arith, lt, is.low))) (λ stripe from below. inr (from, omega (arith, below, is.upto))) c.in_default.ensures.syncs c.in-Err-flush_lanes.ensures.syncs)
