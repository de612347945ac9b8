-- The pieces of a range that lies in the export are a piece range, and its runs are the range's.
use Rattle.std.proofs.Common.{rules, [], true, ◌≡◌, ◌<◌, ◌^◌, ◌∙◌, length, sym, ap}
use Rattle.nm_geometry.specs.declared.byte_range.ByteRange.{ByteRange}
use Rattle.nm_geometry.specs.Pieces.{LiesInside, end_of}
use Rattle.nm_lanes.specs.Cuts.{zeroes_for}
use Rattle.nm_lanes.specs.Fillings.{target_of}
use Rattle.nm_lanes.specs.PieceRanges.{runs_in_pieces}
use Rattle.nm_lanes.specs.Runs.{runs_of_range}
use Rattle.nm_lanes.proofs.PieceRangeLemmas.{all_of, all-runs, all-target, zeroes-piece_range, zeroes-runs}
use Rattle.nm_lanes.proofs.RunAllLemmas.{has-read, has-read-some}
use Rattle.nm_lanes.proofs.reading.read_by.Goals as goal

pub do_all-read-requires-clause-pieces : goal.do_all-read-requires-clause-pieces
do_all-read-requires-clause-pieces g c =
    let range = c.range_inside-range.result in
    let end : end_of range < 2 ^ 64 = search rules in
    let inside : LiesInside range c.args.caller.now.shape.now = search rules in
    let all = zeroes-piece_range c.args.caller.now.shape.now range c.pieces.result true [] inside end c.pieces.ensures.pieces in
    search (rules, all)

pub do_all-read-requires-clause-target : goal.do_all-read-requires-clause-target
do_all-read-requires-clause-target g c =
    let range = c.range_inside-range.result in
    let long : length c.args.into.now ≡ range.length = search rules in
    let all : length c.args.into.now ≡ target_of (all_of range c.pieces.result true true) = long ∙ sym (all-target range c.pieces.result c.pieces.ensures.pieces) in
    search (rules, all)

pub returns-in-Ok-clause-ok : goal.returns-in-Ok-clause-ok
returns-in-Ok-clause-ok g c =
    let shape = c.args.caller.now.shape.now in
    let range = c.range_inside-range.result in
    let runs = runs_in_pieces shape (all_of range c.pieces.result true true) in
    let are = zeroes-runs runs ∙ all-runs shape range c.pieces.result true true c.pieces.ensures.pieces ∙ ap (λ (r : ByteRange). runs_of_range shape r) c.range_inside-range.ensures.range in
    has-read g.D.Lane.follows shape (zeroes_for runs) _ (c.args.lanes.now, c.do_all-read.new.lanes) c.do_all-read.new.into are c.in-Ok.ensures.ok

pub returns-in-Err-clause-err : goal.returns-in-Err-clause-err
returns-in-Err-clause-err g c =
    let shape = c.args.caller.now.shape.now in
    let range = c.range_inside-range.result in
    let runs = runs_in_pieces shape (all_of range c.pieces.result true true) in
    let are = zeroes-runs runs ∙ all-runs shape range c.pieces.result true true c.pieces.ensures.pieces ∙ ap (λ (r : ByteRange). runs_of_range shape r) c.range_inside-range.ensures.range in
    has-read-some g.D.Lane.follows shape (zeroes_for runs) _ (c.args.lanes.now, c.do_all-read.new.lanes) c.in-Err.cause are c.in-Err.ensures.err
