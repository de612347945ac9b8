-- A part of a block, or whole blocks up to where a run ends.
use Rattle.std.proofs.Common.{rules, ◌≡◌, ◌-◌, ◌*◌, ◌/◌, ◌%◌, min, sym, ap, ◌∙◌, arith, IsTrue}
use Rattle.nm_geometry.specs.declared.piece.Piece.{Piece}
use Rattle.nm_geometry.specs.Pieces.{end_of, piece_in}
use Rattle.nm_lanes.specs.PieceRanges.{block_of}
use Rattle.nm_lanes.proofs.FirstRunLemmas.{first-part, first-blocks}
use Rattle.nm_lanes.proofs.run.first_run.Goals as goal

pub returns-then-not-is_whole : goal.returns-then-not-is_whole
returns-then-not-is_whole c =
    let piece = c.piece-piece in
    let is : piece.result ≡ piece_in (block_of c.args.pieces) c.args.pieces.range = piece.ensures.piece in
    let part : piece.result.len ≡ 512 → ⊥ = λ long. let yes : IsTrue c.is_whole.result = c.is_whole.ensures.whole.1 (omega (arith, long, piece.ensures.in_block), long) in search (rules, yes, c.if-not-is_whole.true) in
    let first = first-part c.args.shape.now c.args.pieces piece.result c.requires.some is piece.ensures.some piece.ensures.in_block part in
    rw c.block-block.ensures first

pub returns : goal.returns
returns c =
    let shape = c.args.shape.now in
    let pieces = c.args.pieces in
    let b = block_of pieces in
    let region : c.shape.inside.region ≡ shape.region = search rules in
    let whole = c.is_whole.ensures.whole.0 c.if-not-is_whole.false in
    let is : c.piece-piece.result ≡ piece_in b pieces.range = c.piece-piece.ensures.piece in
    let from : pieces.range.offset - 512 * b ≡ 0 = sym (ap (λ (p : Piece). p.from) is) ∙ whole.0 in
    let long : min (end_of pieces.range - 512 * b) 512 - (pieces.range.offset - 512 * b) ≡ 512 = sym (ap (λ (p : Piece). p.len) is) ∙ whole.1 in
    let blocks : c.min-blocks.result ≡ min (min (min (128 - b % shape.region % 128) (shape.region - b % shape.region)) (end_of pieces.range / 512 - b)) pieces.count = search (rules, region) in
    rw c.block-block.ensures (first-blocks shape pieces c.min-blocks.result c.within_bounds.ensures.some_region c.requires.inside c.requires.some (omega (arith, from)) (omega (arith, from, long)) blocks)
