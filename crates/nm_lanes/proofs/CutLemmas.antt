-- A payload, cut at one run more at a time.
use Rattle.std.proofs.Common.{◌≡◌, ℕ, ◌+◌, ◌-◌, ◌/◌, ◌≤◌, ◌<◌, ◌==◌, inl, inr, false, List, ◌++◌, length, refl, ap, ◌∙◌, arith, pos_of_ne-zero}
use Rattle.std.proofs.lemmas.Bool.Decides.{eqb_tells}
use Rattle.nm_geometry.specs.declared.byte_range.ByteRange.{ByteRange}
use Rattle.nm_geometry.specs.Geometry.{Geometry}
use Rattle.nm_geometry.specs.Pieces.{LiesInside, end_of, touched}
use Rattle.nm_lanes.specs.declared.run_write.RunWrite.{RunWrite}
use Rattle.nm_lanes.specs.declared.piece_range.PieceRange.{PieceRange}
use Rattle.nm_lanes.specs.Cuts.{cuts_for}
use Rattle.nm_lanes.specs.PieceRanges.{block_of, bytes_in, bytes_of, rest_of, runs_in_pieces}

-- the bytes of blocks that follow one another
pub bytes-add : (block n m : ℕ) (range : ByteRange) → range.offset / 512 ≤ block → bytes_in block (n + m) range ≡ bytes_in block n range + bytes_in (block + n) m range
bytes-add block n m range from = omega (arith, from)

-- the bytes of a piece range: of its first pieces, and of the others
pub piece_range-bytes : (pieces : PieceRange) (n m : ℕ) → bytes_of pieces (n + m) ≡ bytes_of pieces n + bytes_in (block_of pieces + n) m pieces.range
piece_range-bytes pieces n m = bytes-add (block_of pieces) n m pieces.range (omega arith)

pub rest-bytes : (pieces : PieceRange) (n : ℕ) → n ≤ pieces.count → bytes_of pieces pieces.count ≡ bytes_of pieces n + bytes_of (rest_of n pieces) (pieces.count - n)
rest-bytes pieces n le =
    let all : pieces.count ≡ n + (pieces.count - n) = omega (arith, le) in
    let next : block_of pieces + n ≡ block_of (rest_of n pieces) = omega arith in
    ap (λ k. bytes_of pieces k) all ∙ piece_range-bytes pieces n (pieces.count - n) ∙ ap (λ b. bytes_of pieces n + bytes_in b (pieces.count - n) pieces.range) next

-- the bytes of the first pieces are some of the piece range's
pub bytes-fit : (pieces : PieceRange) (n : ℕ) → n ≤ pieces.count → bytes_of pieces n ≤ bytes_of pieces pieces.count
bytes-fit pieces n le = let all = rest-bytes pieces n le in omega (arith, all)

-- the first runs of a piece range are cut, and these bytes are left for the others
pub record HasCut (shape : Geometry) (pieces left : PieceRange) (payload : List ℕ) (writes : List RunWrite) (rest : List ℕ) : Type 0 where
  pub cut : writes ++ cuts_for (runs_in_pieces shape left) rest ≡ cuts_for (runs_in_pieces shape pieces) payload
  pub long : length rest ≡ bytes_of left left.count

pub touched-fits : (shape : Geometry) (range : ByteRange) → LiesInside range shape → range.offset / 512 + touched range ≤ shape.blocks
touched-fits shape range inside = elim (eqb_tells range.length 0) [
  | inl none ↦ rw none.0 (omega (arith, inside))
  | inr some ↦ full some.0 (pos_of_ne-zero some.1)
]
  where
    full : (range.length == 0) ≡ false → 0 < range.length → range.offset / 512 + touched range ≤ shape.blocks
    full much some = let upto : touched range ≡ (end_of range - 1) / 512 - range.offset / 512 + 1 = rw much refl in omega (arith, upto, some, inside)

-- the bytes of a range
pub bytes-all : (range : ByteRange) → bytes_in (range.offset / 512) (touched range) range ≡ range.length
bytes-all range = elim (eqb_tells range.length 0) [
  | inl none ↦ rw none.1 (omega arith)
  | inr some ↦ all-of some.0 (pos_of_ne-zero some.1)
]
  where
    all-of : (range.length == 0) ≡ false → 0 < range.length → bytes_in (range.offset / 512) (touched range) range ≡ range.length
    all-of full some = let upto : touched range ≡ (end_of range - 1) / 512 - range.offset / 512 + 1 = rw full refl in omega (arith, upto, some)
