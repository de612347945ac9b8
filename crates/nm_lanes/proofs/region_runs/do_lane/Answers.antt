-- One run more, or the end at a run or before it.
use Rattle.std.proofs.Common.{rules, ◌≡◌, ◌+◌, ◌-◌, ◌/◌, ◌<◌, ◌≤◌, ◌++◌, length, take, refl, ap, sym, ◌∙◌, arith}
use borrow.Rule.Slice.PartMut.{put_mid}
use Rattle.std.proofs.lemmas.List.{take_all}
use Rattle.std.proofs.lemmas.Slice.{take-put_mid}
use Rattle.nm_geometry.specs.Geometry.{block_in_stripe}
use Rattle.nm_lanes.specs.declared.piece_range.PieceRange.{PieceRange}
use Rattle.nm_lanes.specs.Ends.{LaneTries}
use Rattle.nm_lanes.specs.Fillings.{filling, target_of}
use Rattle.nm_lanes.specs.PieceRanges.{block_of, first_of}
use Rattle.nm_lanes.proofs.PieceRangeLemmas.{target-none, target-read, targets-add}
use Rattle.nm_lanes.proofs.RegionLemmas.{one-stripe}
use Rattle.nm_lanes.proofs.RunLaneLemmas.{DidSome, handed-on, run-begins, run-leaves, run-more, run-stops, run-ends}
use Rattle.nm_lanes.proofs.region_runs.do_lane.Goals as goal

pub loop-left-init : goal.loop-left-init
loop-left-init g c = record {
  far = run-begins g.D.Lane.follows g.met.D.Lane.stays c.args.call.now.caller.now.shape.now c.args.region.pieces c.args.region.stripe c.args.cuts.now c.args.lane.now c.requires.pieces;
  read = refl;
  target = omega (arith, c.requires.target);
  long = refl;
  begins = search rules;
  ends = search rules;
  few = search rules;
  follow = c.first_in_stripe-block.ensures.follow;
  low = c.first_in_stripe-block.ensures.most;
}

pub returns-in_err-do_one-clause-err : goal.returns-in_err-do_one-clause-err
returns-in_err-do_one-clause-err g c =
    let shape = c.args.call.now.caller.now.shape.now in
    let loop = c.loop-left in
    let reads = c.args.region.pieces.is_read in
    let all = filling shape c.args.region.pieces c.args.cuts.now in
    let write = c.take-write.result.0 in
    let first = c.take-write.ensures.first in
    let some : 0 < loop.left.count = c.loop-left-test.true in
    let in_stripe = one-stripe shape c.args.region write.run.block c.within_bounds.ensures c.requires.region (omega (arith, first.block, loop.invariant.begins)) (omega (arith, first.block, some, loop.invariant.ends)) in
    let here : block_of loop.left + 0 ≡ write.run.block = omega (arith, first.block) in
    let next : loop.block + 0 ≡ loop.block = omega arith in
    let block : loop.block ≡ block_in_stripe write.run.block shape = sym next ∙ loop.invariant.follow 0 some ∙ ap (λ b. block_in_stripe b shape) here in
    let tries = run-stops g.D.Lane.follows g.met.D.Lane.joins shape c.args.region.stripe reads all loop.left _ _ write c.take-write.result.1 loop.block c.in_err-do_one.field-0.0 (take loop.from loop.into) c.args.lane.now loop.lane c.do_one.new.lane
    c.take-write.ensures in_stripe block loop.invariant.far c.in_err-do_one.ensures.err in
    handed-on c.from_residual.result c.in_err-do_one.field-0.0 (λ kind. LaneTries g.D.Lane.follows (λ own. DidSome shape reads all c.args.region.stripe own) (record { stripe = c.args.region.stripe; kind = kind }) c.args.region.stripe c.args.lane.now c.do_one.new.lane)
    c.from_residual.ensures.1 tries

pub loop-left-preserved : goal.loop-left-preserved
loop-left-preserved g c =
    let shape = c.args.call.now.caller.now.shape.now in
    let loop = c.loop-left in
    let write = c.take-write.result.0 in
    let blocks = c.take-write.result.1 in
    let first = c.take-write.ensures.first in
    let some : 0 < loop.left.count = c.loop-left-test.true in
    let in_stripe = one-stripe shape c.args.region write.run.block c.within_bounds.ensures c.requires.region (omega (arith, first.block, loop.invariant.begins)) (omega (arith, first.block, some, loop.invariant.ends)) in
    let here : block_of loop.left + 0 ≡ write.run.block = omega (arith, first.block) in
    let next : loop.block + 0 ≡ loop.block = omega arith in
    let block : loop.block ≡ block_in_stripe write.run.block shape = sym next ∙ loop.invariant.follow 0 some ∙ ap (λ b. block_in_stripe b shape) here in
    let from = loop.from in
    let into = loop.into in
    let last = c.do_one.new.into in
    let more = c.target_of.result in
    let target : more ≡ target_of (first_of blocks loop.left) = c.target_of.ensures ∙ ap (λ (p : PieceRange). target_of p) c.first_of.ensures in
    let both = targets-add loop.left blocks first.most in
    let fits : from + more ≤ length into = omega (arith, target, both, loop.invariant.target) in
    let low : from ≤ length into = omega (arith, fits) in
    let long : length last ≡ more = search rules in
    let written = put_mid from (from + more - from) into last in
    let joined : take (from + more) written ≡ take from into ++ last = take-put_mid from (from + more - from) into last (from + more) (omega (arith, long)) low in
    let same : length written ≡ length into = search (rules, fits) in
    rw c.rest_of-left.ensures (record {
      far = run-more g.D.Lane.follows g.met.D.Lane.joins shape c.args.region.stripe c.args.region.pieces.is_read (filling shape c.args.region.pieces c.args.cuts.now) loop.left _ _ write blocks loop.block (take from into) last (take (from + more) written) c.args.lane.now loop.lane c.do_one.new.lane
          c.take-write.ensures in_stripe block joined loop.invariant.far c.in_ok-do_one.ensures.ok;
      read = loop.invariant.read;
      target = omega (arith, same, target, both, loop.invariant.target);
      long = same ∙ loop.invariant.long;
      begins = omega (arith, loop.invariant.begins);
      ends = omega (arith, loop.invariant.ends, first.most);
      few = omega (arith, loop.invariant.few, first.most, first.some);
      follow = λ at below.
          let inside : blocks + at < loop.left.count = omega (arith, below) in
          let a : loop.block + blocks + at ≡ loop.block + (blocks + at) = omega arith in
          let b : block_of loop.left + (blocks + at) ≡ loop.left.range.offset / 512 + (loop.left.first + blocks) + at = omega arith in
          a ∙ loop.invariant.follow (blocks + at) inside ∙ ap (λ n. block_in_stripe n shape) b;
      low = omega (arith, loop.invariant.low);
    })

pub returns-clause-ok : goal.returns-clause-ok
returns-clause-ok g c =
    let shape = c.args.call.now.caller.now.shape.now in
    let loop = c.loop-left in
    let none : loop.left.count ≡ 0 = search rules in
    let over : length loop.into ≤ loop.from = target-none loop.left none loop.from (length loop.into) loop.invariant.target in
    run-ends g.D.Lane.follows shape c.args.region.pieces.is_read c.args.region.stripe (filling shape c.args.region.pieces c.args.cuts.now) loop.left _ (take loop.from loop.into) loop.into c.args.lane.now loop.lane none (sym (take_all loop.from loop.into over)) loop.invariant.far

pub returns-then-gives_up-clause-err : goal.returns-then-gives_up-clause-err
returns-then-gives_up-clause-err g c =
    let shape = c.args.call.now.caller.now.shape.now in
    let loop = c.loop-left in
    let write = c.take-write.result.0 in
    let first = c.take-write.ensures.first in
    let some : 0 < loop.left.count = c.loop-left-test.true in
    let in_stripe = one-stripe shape c.args.region write.run.block c.within_bounds.ensures c.requires.region (omega (arith, first.block, loop.invariant.begins)) (omega (arith, first.block, some, loop.invariant.ends)) in
    let gone = c.gives_up.ensures (search rules) in
    run-leaves g.D.Lane.follows g.met.D.Lane.joins shape c.args.region.stripe c.args.region.pieces.is_read (filling shape c.args.region.pieces c.args.cuts.now) loop.left _ _ write c.take-write.result.1 (take loop.from loop.into) c.args.lane.now loop.lane
    c.take-write.ensures gone.0 (sym loop.invariant.read ∙ gone.1) in_stripe loop.invariant.far

-- the bytes that a run has in the target
pub overflow_add-to : goal.overflow_add-to
overflow_add-to g c =
    let loop = c.loop-left in
    let blocks = c.take-write.result.1 in
    let target : c.target_of.result ≡ target_of (first_of blocks loop.left) = c.target_of.ensures ∙ ap (λ (p : PieceRange). target_of p) c.first_of.ensures in
    let both = targets-add loop.left blocks c.take-write.ensures.first.most in
    let fits : loop.from + c.target_of.result ≤ length loop.into = omega (arith, target, both, loop.invariant.target) in
    search (rules, fits)

pub do_one-requires-clause-long : goal.do_one-requires-clause-long
do_one-requires-clause-long g c = λ is.
    let loop = c.loop-left in
    let blocks = c.take-write.result.1 in
    let first = c.take-write.ensures.first in
    let target : c.target_of.result ≡ target_of (first_of blocks loop.left) = c.target_of.ensures ∙ ap (λ (p : PieceRange). target_of p) c.first_of.ensures in
    let both = targets-add loop.left blocks first.most in
    let fits : loop.from + c.target_of.result ≤ length loop.into = omega (arith, target, both, loop.invariant.target) in
    let long : c.target_of.result ≡ c.take-write.result.0.run.len = target ∙ target-read loop.left blocks c.args.region.pieces.is_read loop.invariant.read is ∙ sym first.bytes in
    search (rules, fits, long)
