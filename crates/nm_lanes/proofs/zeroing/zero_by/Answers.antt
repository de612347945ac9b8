-- The pieces of a range that lies in the export are a piece range.
use Rattle.std.proofs.Common.{rules, List, [], true, false, ◌<◌, ◌^◌, ◌∙◌, ap}
use Rattle.nm_geometry.specs.declared.byte_range.ByteRange.{ByteRange}
use Rattle.nm_geometry.specs.Pieces.{LiesInside, end_of}
use Rattle.nm_lanes.specs.declared.run.Run.{Run}
use Rattle.nm_lanes.specs.Cuts.{zeroes_for}
use Rattle.nm_lanes.specs.Runs.{runs_of_range}
use Rattle.nm_lanes.proofs.PieceRangeLemmas.{all-runs, zeroes-piece_range}
use Rattle.nm_lanes.proofs.RunAllLemmas.{has-written, has-written-some}
use Rattle.nm_lanes.proofs.zeroing.zero_by.Goals as goal

pub do_all-zeroed-requires-clause-pieces : goal.do_all-zeroed-requires-clause-pieces
do_all-zeroed-requires-clause-pieces g c =
    let range = c.range_inside-range.result in
    let end : end_of range < 2 ^ 64 = search rules in
    let inside : LiesInside range c.args.caller.now.shape.now = search rules in
    let all = zeroes-piece_range c.args.caller.now.shape.now range c.pieces.result false [] inside end c.pieces.ensures.pieces in
    search (rules, all)

pub returns-in-Ok-clause-ok : goal.returns-in-Ok-clause-ok
returns-in-Ok-clause-ok g c =
    let shape = c.args.caller.now.shape.now in
    let range = c.range_inside-range.result in
    let runs = all-runs shape range c.pieces.result true false c.pieces.ensures.pieces ∙ ap (λ (r : ByteRange). runs_of_range shape r) c.range_inside-range.ensures.range in
    has-written g.D.Lane.follows shape _ _ (c.args.lanes.now, c.do_all-zeroed.new.lanes) _ (ap (λ (rs : List Run). zeroes_for rs) runs) c.in-Ok.ensures.ok

pub returns-in-Err-clause-err : goal.returns-in-Err-clause-err
returns-in-Err-clause-err g c =
    let shape = c.args.caller.now.shape.now in
    let range = c.range_inside-range.result in
    let runs = all-runs shape range c.pieces.result true false c.pieces.ensures.pieces ∙ ap (λ (r : ByteRange). runs_of_range shape r) c.range_inside-range.ensures.range in
    has-written-some g.D.Lane.follows shape _ _ (c.args.lanes.now, c.do_all-zeroed.new.lanes) c.in-Err.cause (ap (λ (rs : List Run). zeroes_for rs) runs) c.in-Err.ensures.err
