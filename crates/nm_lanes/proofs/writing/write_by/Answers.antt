-- The pieces of a range that lies in the export are a piece range, and its runs are the range's.
use Rattle.std.proofs.Common.{rules, List, false, ◌≡◌, ℕ, length, ◌<◌, ◌^◌, ◌∙◌, ap}
use Rattle.nm_geometry.specs.declared.byte_range.ByteRange.{ByteRange}
use Rattle.nm_geometry.specs.Pieces.{LiesInside, end_of}
use Rattle.nm_lanes.specs.declared.run.Run.{Run}
use Rattle.nm_lanes.specs.Cuts.{cuts_for}
use Rattle.nm_lanes.specs.Runs.{runs_of_range}
use Rattle.nm_lanes.proofs.PieceRangeLemmas.{all-runs, cuts-piece_range}
use Rattle.nm_lanes.proofs.RunAllLemmas.{has-written, has-written-some}
use Rattle.nm_lanes.proofs.writing.write_by.Goals as goal

pub do_all-written-requires-clause-pieces : goal.do_all-written-requires-clause-pieces
do_all-written-requires-clause-pieces g c =
    let range = c.range_inside-range.result in
    let end : end_of range < 2 ^ 64 = search rules in
    let inside : LiesInside range c.args.caller.now.shape.now = search rules in
    let all = cuts-piece_range c.args.caller.now.shape.now range c.pieces.result c.in-Ok.writes.items c.args.payload inside end c.pieces.ensures.pieces c.in-Ok.ensures.cuts in
    search (rules, all)

pub returns-in-Ok-written-clause-ok : goal.returns-in-Ok-written-clause-ok
returns-in-Ok-written-clause-ok g c =
    let shape = c.args.caller.now.shape.now in
    let range = c.range_inside-range.result in
    let long : c.len-len.result ≡ length c.args.payload = search rules in
    let runs = all-runs shape range c.pieces.result false false c.pieces.ensures.pieces ∙ ap (λ (r : ByteRange). runs_of_range shape r) c.range_inside-range.ensures.range ∙ ap (λ (n : ℕ). runs_of_range shape (record { offset = c.args.offset; length = n })) long in
    let same : c.as_mut_slice.result.now ≡ c.in-Ok.writes.items = search rules in
    has-written g.D.Lane.follows shape _ _ (c.args.lanes.now, c.do_all-written.new.lanes) _ (same ∙ c.in-Ok.ensures.cuts ∙ ap (λ (rs : List Run). cuts_for rs c.args.payload) runs) c.in-Ok-written.ensures.ok

pub returns-clause-err : goal.returns-clause-err
returns-clause-err g c =
    let shape = c.args.caller.now.shape.now in
    let range = c.range_inside-range.result in
    let long : c.len-len.result ≡ length c.args.payload = search rules in
    let runs = all-runs shape range c.pieces.result false false c.pieces.ensures.pieces ∙ ap (λ (r : ByteRange). runs_of_range shape r) c.range_inside-range.ensures.range ∙ ap (λ (n : ℕ). runs_of_range shape (record { offset = c.args.offset; length = n })) long in
    let same : c.as_mut_slice.result.now ≡ c.in-Ok.writes.items = search rules in
    has-written-some g.D.Lane.follows shape _ _ (c.args.lanes.now, c.do_all-written.new.lanes) c.in-Err.cause (same ∙ c.in-Ok.ensures.cuts ∙ ap (λ (rs : List Run). cuts_for rs c.args.payload) runs) c.in-Err.ensures.err
