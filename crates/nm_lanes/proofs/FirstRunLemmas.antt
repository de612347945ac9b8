-- The first run of a piece range: a part of a block, or the whole blocks up to where a run ends.
use Rattle.std.proofs.Common.{rules, ◌≡◌, inl, inr, ℕ, zero, suc, ◌+◌, ◌-◌, ◌*◌, ◌/◌, ◌%◌, ◌<◌, ◌≤◌, ◌⊎◌, min, true, false, List, ◌∷◌, ◌++◌, refl, sym, ap, ◌∙◌, subst, arith}
use Rattle.std.proofs.Math.Nat.{mul-mod_left, mul-mod_right}
use Rattle.std.proofs.lemmas.Bool.Decides.{eqb_tells}
use Rattle.std.proofs.lemmas.Nat.{div-add-mod', mod-mul-add, mod_below}
use Rattle.nm_geometry.specs.declared.byte_range.ByteRange.{ByteRange}
use Rattle.nm_geometry.specs.declared.piece.Piece.{Piece}
use Rattle.nm_geometry.specs.Geometry.{Geometry}
use Rattle.nm_geometry.specs.Pieces.{end_of, touched, piece_in, pieces_from}
use Rattle.nm_lanes.specs.declared.run.Run.{Run}
use Rattle.nm_lanes.specs.declared.piece_range.PieceRange.{PieceRange}
use Rattle.nm_lanes.specs.Runs.{is_whole, in_one_run, run_of, runs_of}
use Rattle.nm_lanes.specs.PieceRanges.{block_of, bytes_of, all_pieces, rest_of, runs_in_pieces, IsFirstRun}
use Rattle.nm_lanes.proofs.PieceLemmas.{pieces-add, touched-inside}
use Rattle.nm_lanes.proofs.RunLemmas.{agree, whole_piece, whole_run, before-apart, part-apart, runs-front, whole-front, cut-apart, before-part, one-run, region-cut, group-cut, IsApart}

-- the pieces of a piece range after its first ones
pub piece_range-add : (shape : Geometry) (pieces : PieceRange) (blocks : ℕ) → blocks ≤ pieces.count → all_pieces pieces ≡ pieces_from (block_of pieces) blocks pieces.range ++ all_pieces (rest_of blocks pieces)
piece_range-add shape pieces blocks le =
    let b = block_of pieces in
    let all : pieces.count ≡ blocks + (pieces.count - blocks) = omega (arith, le) in
    let next : b + blocks ≡ block_of (rest_of blocks pieces) = omega arith in
    ap (λ (k : ℕ). pieces_from b k pieces.range) all ∙ pieces-add b blocks (pieces.count - blocks) pieces.range
    ∙ ap (λ (k : ℕ). pieces_from b blocks pieces.range ++ pieces_from k (pieces.count - blocks) pieces.range) next

-- a part of a block
pub first-part : (shape : Geometry) (pieces : PieceRange) (piece : Piece) → 0 < pieces.count → piece ≡ piece_in (block_of pieces) pieces.range → 0 < piece.len → piece.from + piece.len ≤ 512 → (piece.len ≡ 512 → ⊥)
    → IsFirstRun shape pieces (record { block = block_of pieces; from = piece.from; len = piece.len }) 1
first-part shape pieces piece some is long inside part =
    let b = block_of pieces in
    let rest = all_pieces (rest_of 1 pieces) in
    let split = piece_range-add shape pieces 1 (omega (arith, some)) in
    let none : (piece_in b pieces.range).len ≡ 512 → ⊥ = λ whole. part (ap (λ (p : Piece). p.len) is ∙ whole) in
    let runs : runs_in_pieces shape pieces ≡ run_of (piece_in b pieces.range) ∷ runs_of shape rest =
    ap (λ (ps : List Piece). runs_of shape ps) split ∙ before-apart shape (piece_in b pieces.range) (runs_of shape rest) (part-apart shape (piece_in b pieces.range) (runs_of shape rest) none) in
    let run : run_of (piece_in b pieces.range) ≡ record { block = b; from = piece.from; len = piece.len } = ap (λ (p : Piece). record { block = b; from = p.from; len = p.len }) (sym is) in
    let bytes : piece.len ≡ bytes_of pieces 1 = ap (λ (p : Piece). p.len) is ∙ (omega arith) in
    record {
      some = omega arith;
      most = omega (arith, some);
      few = omega arith;
      block = refl;
      count = omega (arith, long, inside);
      bytes = bytes;
      is_run = record { fits = omega (arith, inside, long); part = λ no. omega (arith, long, inside) };
      runs = runs ∙ ap (λ (r : Run). r ∷ runs_of shape rest) run;
    }

-- whole blocks: so many of the range begin and end in it
pub piece-whole : (range : ByteRange) (block : ℕ) → range.offset ≤ 512 * block → 512 * (block + 1) ≤ end_of range → piece_in block range ≡ whole_piece block
piece-whole range block from upto =
    let first : range.offset - 512 * block ≡ 0 = omega (arith, from) in
    let long : min (end_of range - 512 * block) 512 - 0 ≡ 512 = omega (arith, upto) in
    rw (first, long) refl

-- what ends a run of whole blocks: the piece range, the whole blocks, the region, or a group
abbrev pub EndsRun : Geometry → PieceRange → ℕ → Type 0
EndsRun shape pieces more =
    (suc more ≡ pieces.count) ⊎ ((end_of pieces.range / 512 ≡ block_of pieces + suc more)
    ⊎ (((block_of pieces + more + 1) % shape.region ≡ 0)
    ⊎ (((block_of pieces + more) % shape.region + 1 < shape.region) × (((block_of pieces + more) % shape.region + 1) % 128 ≡ 0))))

rest-apart : (shape : Geometry) (pieces : PieceRange) (more : ℕ) → pieces.first + pieces.count ≤ touched pieces.range → suc more ≤ pieces.count → pieces.range.offset ≤ 512 * block_of pieces → EndsRun shape pieces more
    → IsApart shape (whole_piece (block_of pieces + more)) (runs_of shape (pieces_from (block_of pieces + suc more) (pieces.count - suc more) pieces.range))
rest-apart shape pieces more inside le from ends = go (pieces.count - suc more) refl ends
  where
    b : ℕ
    b = block_of pieces

    next : block_of pieces + suc more ≡ block_of pieces + more + 1
    next = omega arith

    cut : (k : ℕ) → in_one_run shape (b + more) (b + more + 1) ≡ false → IsApart shape (whole_piece (b + more)) (runs_of shape (pieces_from (b + suc more) (suc k) pieces.range))
    cut k stop = cut-apart shape (whole_piece (b + more)) (piece_in (b + suc more) pieces.range) (runs_of shape (pieces_from (b + suc more + 1) k pieces.range)) (rw next stop)

    go : (k : ℕ) → pieces.count - suc more ≡ k → EndsRun shape pieces more → IsApart shape (whole_piece (b + more)) (runs_of shape (pieces_from (b + suc more) k pieces.range))
    go zero is a = tt
    go (suc k) is (inl end) = absurd (omega (arith, is, end))
    go (suc k) is (inr (inl end)) =
        let met = touched-inside pieces.range (pieces.first + suc more) (omega (arith, inside, is)) in
        before-part shape (whole_piece (b + more)) (piece_in (b + suc more) pieces.range) (runs_of shape (pieces_from (b + suc more + 1) k pieces.range)) (omega (arith, met.goes_on, end, from)) (omega (arith, end, from))
    go (suc k) is (inr (inr (inl begins))) = cut k (region-cut shape (b + more) begins)
    go (suc k) is (inr (inr (inr group))) = cut k (group-cut shape (b + more) group.0 group.1)

whole-runs : (shape : Geometry) (pieces : PieceRange) (more : ℕ) → pieces.first + pieces.count ≤ touched pieces.range → suc more ≤ pieces.count → pieces.range.offset ≤ 512 * block_of pieces → 512 * (block_of pieces + suc more) ≤ end_of pieces.range
    → block_of pieces % shape.region + suc more ≤ shape.region → block_of pieces % shape.region % 128 + suc more ≤ 128 → EndsRun shape pieces more
    → runs_in_pieces shape pieces ≡ whole_run (block_of pieces) (suc more) ∷ runs_in_pieces shape (rest_of (suc more) pieces)
whole-runs shape pieces more inside le from upto region group ends =
    let b = block_of pieces in
    let rest = all_pieces (rest_of (suc more) pieces) in
    let next : b + suc more ≡ block_of (rest_of (suc more) pieces) = omega arith in
    let apart : IsApart shape (whole_piece (b + more)) (runs_of shape rest) = rw next at (rest-apart shape pieces more inside le from ends) in
    ap (λ (ps : List Piece). runs_of shape ps) (piece_range-add shape pieces (suc more) le) ∙ runs-front shape (pieces_from b (suc more) pieces.range) rest
    ∙ whole-front shape pieces.range b more (runs_of shape rest) (λ i below. piece-whole pieces.range (b + i) (omega (arith, from)) (omega (arith, upto, below)))
    (λ i below. one-run shape b i (omega (arith, region, below)) (omega (arith, group, below))) apart

whole-run-whole : (block count : ℕ) → is_whole (whole_run block count) ≡ false → ⊥
whole-run-whole block count odd = let all : true ≡ false = sym (agree (512 * count % 512) 0 (mul-mod_right 512 count)) ∙ odd in search (rules, all)

pub first-whole : (shape : Geometry) (pieces : PieceRange) (more : ℕ) → pieces.first + pieces.count ≤ touched pieces.range → suc more ≤ pieces.count → pieces.range.offset ≤ 512 * block_of pieces → 512 * (block_of pieces + suc more) ≤ end_of pieces.range
    → block_of pieces % shape.region + suc more ≤ shape.region → block_of pieces % shape.region % 128 + suc more ≤ 128 → EndsRun shape pieces more
    → IsFirstRun shape pieces (whole_run (block_of pieces) (suc more)) (suc more)
first-whole shape pieces more inside le from upto region group ends = record {
  some = omega arith;
  most = le;
  few = omega (arith, group);
  block = refl;
  count = omega arith;
  bytes = omega (arith, from, upto);
  is_run = record { fits = omega arith; part = λ odd. absurd (whole-run-whole (block_of pieces) (suc more) odd) };
  runs = whole-runs shape pieces more inside le from upto region group ends;
}

-- where the least of the four ends lies
ends-run : (shape : Geometry) (pieces : PieceRange) (more : ℕ) → 0 < shape.region
    → suc more ≡ min (min (min (128 - block_of pieces % shape.region % 128) (shape.region - block_of pieces % shape.region)) (end_of pieces.range / 512 - block_of pieces)) pieces.count → EndsRun shape pieces more
ends-run shape pieces more some is =
    let b = block_of pieces in
    let r = shape.region in
    let x = b % r in
    let below = mod_below b r some in
    let whole = div-add-mod' b r in
    elim (eqb_tells (suc more) pieces.count) [
      | inl end ↦ inl end.1
      | inr on ↦ elim (eqb_tells (suc more) (end_of pieces.range / 512 - b)) [
        | inl end ↦ inr (inl (omega (arith, end.1)))
        | inr over ↦ elim (eqb_tells (suc more) (r - x)) [
          | inl end ↦ let next : b + more + 1 ≡ (b / r + 1) * r = omega (arith, end.1, below, whole) in inr (inr (inl (ap (λ n. n % r) next ∙ mul-mod_left (b / r + 1) r)))
          | inr past ↦
              let low : x + more < r = omega (arith, is, past.1, below) in
              let here : b + more ≡ b / r * r + (x + more) = omega (arith, whole) in
              let at : (b + more) % r ≡ x + more = ap (λ n. n % r) here ∙ mod-mul-add (b / r) r (x + more) low in
              inr (inr (inr (omega (arith, at, is, past.1, below), omega (arith, at, is, on.1, over.1, past.1))))
        ]
      ]
    ]

pub first-blocks : (shape : Geometry) (pieces : PieceRange) (blocks : ℕ) → 0 < shape.region → pieces.first + pieces.count ≤ touched pieces.range → 0 < pieces.count → pieces.range.offset ≤ 512 * block_of pieces → 512 * (block_of pieces + 1) ≤ end_of pieces.range
    → blocks ≡ min (min (min (128 - block_of pieces % shape.region % 128) (shape.region - block_of pieces % shape.region)) (end_of pieces.range / 512 - block_of pieces)) pieces.count
    → IsFirstRun shape pieces (record { block = block_of pieces; from = 0; len = blocks * 512 }) blocks
first-blocks shape pieces blocks some inside any from upto is =
    let b = block_of pieces in
    let r = shape.region in
    let below = mod_below b r some in
    let more = blocks - 1 in
    let next : suc more ≡ blocks = omega (arith, is, any, below, upto) in
    let long : 512 * suc more ≡ blocks * 512 = omega (arith, next) in
    let first = first-whole shape pieces more inside (omega (arith, next, is)) from (omega (arith, next, is)) (omega (arith, next, is, below)) (omega (arith, next, is)) (ends-run shape pieces more some (next ∙ is)) in
    subst (λ (n : ℕ). IsFirstRun shape pieces (record { block = b; from = 0; len = n }) blocks) long (subst (λ (n : ℕ). IsFirstRun shape pieces (whole_run b (suc more)) n) next first)
