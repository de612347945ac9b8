-- A range is cut block by block: what it has of a block begins where what it had of the last ended.
use Rattle.std.proofs.Common.{◌≡◌, ℕ, zero, suc, ◌+◌, ◌-◌, ◌*◌, ◌/◌, ◌<◌, ◌≤◌, ◌==◌, ◌⊎◌, List, [], ◌∷◌, length, Some, slice_get, refl, sym, ap, ◌∙◌, subst, arith, inl, inr, true, false, pos_of_ne-zero}
use Rattle.std.proofs.lemmas.Bool.Decides.{eqb_tells}
use Rattle.nm_geometry.specs.declared.piece.Piece.{Piece}
use Rattle.nm_geometry.specs.declared.byte_range.ByteRange.{ByteRange}
use Rattle.nm_geometry.specs.Pieces.{end_of, stop_of, touched, piece_in, pieces_from, pieces_of, IsPieceAt, Cuts}
use Rattle.nm_geometry.specs.PieceLaws.{AreByNumber}

-- what a range has of a block is not empty: it begins before the block's end, and ends after the
-- block's beginning
record Meets (block : ℕ) (range : ByteRange) : Type 0 where
  some : range.offset < end_of range
  begun : range.offset < 512 * (block + 1)
  goes_on : 512 * block < end_of range

-- the byte from which the range goes on in a block
abbrev goes_from : ℕ → ByteRange → ℕ
goes_from block range = range.offset + (512 * block - range.offset)

met : (block : ℕ) (range : ByteRange) → Meets block range → IsPieceAt block (goes_from block range) (piece_in block range)
met block range m = record {
  block_is = refl;
  starts = omega arith;
  some = omega (arith, m.some, m.begun, m.goes_on);
  in_block = omega (arith, m.some, m.begun, m.goes_on);
}

-- the blocks from one on that a range has still to meet, after the first of them
cut-from : (more block : ℕ) (range : ByteRange) → range.offset < end_of range → range.offset < 512 * (block + 1) → 512 * (block + more) < end_of range → end_of range ≤ 512 * (block + more + 1) → Cuts (pieces_from block (suc more) range) block (goes_from block range) (end_of range)
cut-from zero block range some begun goes_on stops =
    let m : Meets block range = record { some = some; begun = begun; goes_on = omega (arith, goes_on) } in
    (met block range m, omega (arith, some, begun, goes_on, stops))
cut-from (suc more) block range some begun goes_on stops =
    let m : Meets block range = record { some = some; begun = begun; goes_on = omega (arith, goes_on) } in
    let rest = cut-from more (block + 1) range some (omega (arith, begun)) (omega (arith, goes_on)) (omega (arith, stops)) in
    let from : goes_from (block + 1) range ≡ stop_of (piece_in block range) = omega (arith, begun, goes_on, some) in
    (met block range m, subst (λ (n : ℕ). Cuts (pieces_from (block + 1) (suc more) range) (block + 1) n (end_of range)) from rest)

-- pieces lead forwards
never-back : (pieces : List Piece) (block from to : ℕ) → Cuts pieces block from to → from ≤ to
never-back [] block from to cuts = omega (arith, cuts)
never-back (p ∷ ps) block from to cuts = omega (arith, cuts.0, never-back ps (block + 1) (stop_of p) to cuts.1)

-- a piece is what its fields are
same-piece : (p : Piece) (block from len : ℕ) → p.block ≡ block → p.from ≡ from → p.len ≡ len → p ≡ record { block = block; from = from; len = len }
same-piece p block from len a b c =
    ap (λ (n : ℕ). let made : Piece = record { block = n; from = p.from; len = p.len } in made) a
    ∙ ap (λ (n : ℕ). let made : Piece = record { block = block; from = n; len = p.len } in made) b
    ∙ ap (λ (n : ℕ). let made : Piece = record { block = block; from = from; len = n } in made) c

-- a piece that begins where the range goes on, and stops where the block or the range does, is what
-- the range has of the block
one-piece : (p : Piece) (block : ℕ) (range : ByteRange) → Meets block range → IsPieceAt block (goes_from block range) p → ((stop_of p ≡ goes_from (block + 1) range) × (512 * (block + 1) ≤ end_of range)) ⊎ ((stop_of p ≡ end_of range) × (end_of range ≤ 512 * (block + 1))) → p ≡ piece_in block range
one-piece p block range m at (inl stops) =
    same-piece p block (range.offset - 512 * block) _ at.block_is (omega (arith, at.block_is, at.starts)) (omega (arith, at.block_is, at.starts, stops.0, stops.1, m.begun, m.some, m.goes_on))
one-piece p block range m at (inr stops) =
    same-piece p block (range.offset - 512 * block) _ at.block_is (omega (arith, at.block_is, at.starts)) (omega (arith, at.block_is, at.starts, stops.0, stops.1, m.begun, m.some, m.goes_on))

-- what cuts the blocks from one on is what the range has of them
only-these : (pieces : List Piece) (more block : ℕ) (range : ByteRange) → range.offset < end_of range → range.offset < 512 * (block + 1) → 512 * (block + more) < end_of range → end_of range ≤ 512 * (block + more + 1) → Cuts pieces block (goes_from block range) (end_of range) → pieces ≡ pieces_from block (suc more) range
only-these [] more block range some begun goes_on stops cuts = absurd (omega (arith, cuts, some, goes_on))
only-these (p ∷ []) zero block range some begun goes_on stops cuts =
    let m : Meets block range = record { some = some; begun = begun; goes_on = omega (arith, goes_on) } in
    let own = one-piece p block range m cuts.0 (inr (sym cuts.1, omega (arith, stops))) in
    ap (λ (x : Piece). x ∷ []) own
only-these (p ∷ []) (suc more) block range some begun goes_on stops cuts =
    absurd (omega (arith, cuts.0.block_is, cuts.0.in_block, cuts.1, goes_on))
only-these (p ∷ (q ∷ ps)) zero block range some begun goes_on stops cuts =
    absurd (omega (arith, stops, cuts.1.0.block_is, cuts.1.0.starts, cuts.1.0.some, cuts.0.block_is, cuts.0.in_block, never-back ps (block + 1 + 1) (stop_of q) (end_of range) cuts.1.1))
only-these (p ∷ (q ∷ ps)) (suc more) block range some begun goes_on stops cuts =
    let m : Meets block range = record { some = some; begun = begun; goes_on = omega (arith, goes_on) } in
    let stopped : stop_of p ≡ goes_from (block + 1) range = omega (arith, begun, cuts.1.0.block_is, cuts.1.0.starts, cuts.0.block_is, cuts.0.in_block) in
    let own = one-piece p block range m cuts.0 (inl (stopped, omega (arith, goes_on))) in
    let later : Cuts (q ∷ ps) (block + 1) (goes_from (block + 1) range) (end_of range) = subst (λ (n : ℕ). Cuts (q ∷ ps) (block + 1) n (end_of range)) stopped cuts.1 in
    let rest = only-these (q ∷ ps) more (block + 1) range some (omega (arith, begun)) (omega (arith, goes_on)) (omega (arith, stops)) later in
    ap (λ (x : Piece). x ∷ (q ∷ ps)) own ∙ ap (λ (xs : List Piece). piece_in block range ∷ xs) rest

-- the first and the last byte of a range say which blocks it meets
record Span (more : ℕ) (range : ByteRange) : Type 0 where
  count : touched range ≡ suc more
  some : range.offset < end_of range
  begun : range.offset < 512 * (range.offset / 512 + 1)
  goes_on : 512 * (range.offset / 512 + more) < end_of range
  stops : end_of range ≤ 512 * (range.offset / 512 + more + 1)
  from : goes_from (range.offset / 512) range ≡ range.offset

-- how many blocks a range touches after its first
abbrev further : ByteRange → ℕ
further range = (end_of range - 1) / 512 - range.offset / 512

span : (range : ByteRange) → (range.length == 0) ≡ false → 0 < range.length → Span (further range) range
span range full some = record {
  count = rw full (omega arith);
  some = omega (arith, some);
  begun = omega arith;
  goes_on = omega (arith, some);
  stops = omega (arith, some);
  from = omega arith;
}

empty-count : (range : ByteRange) → (range.length == 0) ≡ true → touched range ≡ 0
empty-count range none = rw none refl

pub cut : (range : ByteRange) → Cuts (pieces_of range) (range.offset / 512) range.offset (end_of range)
cut range = elim (eqb_tells range.length 0) [
  | inl none ↦ subst (λ (n : ℕ). Cuts (pieces_from (range.offset / 512) n range) (range.offset / 512) range.offset (end_of range)) (sym (empty-count range none.0)) (omega (arith, none.1))
  | inr some ↦
      let s = span range some.0 (pos_of_ne-zero some.1) in
      let cuts = cut-from (further range) (range.offset / 512) range s.some s.begun s.goes_on s.stops in
      let from : Cuts (pieces_from (range.offset / 512) (suc (further range)) range) (range.offset / 512) range.offset (end_of range) = subst (λ (n : ℕ). Cuts (pieces_from (range.offset / 512) (suc (further range)) range) (range.offset / 512) n (end_of range)) s.from cuts in
      subst (λ (n : ℕ). Cuts (pieces_from (range.offset / 512) n range) (range.offset / 512) range.offset (end_of range)) (sym s.count) from
]

-- nothing cuts no bytes
nothing-cuts : (pieces : List Piece) (block from : ℕ) → Cuts pieces block from from → pieces ≡ []
nothing-cuts [] block from cuts = refl
nothing-cuts (p ∷ ps) block from cuts = absurd (omega (arith, cuts.0.starts, cuts.0.some, never-back ps (block + 1) (stop_of p) from cuts.1))

pub alone : (range : ByteRange) (pieces : List Piece) → Cuts pieces (range.offset / 512) range.offset (end_of range) → pieces ≡ pieces_of range
alone range pieces cuts = elim (eqb_tells range.length 0) [
  | inl none ↦
      let ends : end_of range ≡ range.offset = omega (arith, none.1) in
      nothing-cuts pieces (range.offset / 512) range.offset (subst (λ (n : ℕ). Cuts pieces (range.offset / 512) range.offset n) ends cuts)
      ∙ ap (λ (n : ℕ). pieces_from (range.offset / 512) n range) (sym (empty-count range none.0))
  | inr some ↦
      let s = span range some.0 (pos_of_ne-zero some.1) in
      only-these pieces (further range) (range.offset / 512) range s.some s.begun s.goes_on s.stops (subst (λ (n : ℕ). Cuts pieces (range.offset / 512) n (end_of range)) (sym s.from) cuts)
      ∙ ap (λ (n : ℕ). pieces_from (range.offset / 512) n range) (sym s.count)
]

counted : (more block : ℕ) (range : ByteRange) → length (pieces_from block more range) ≡ more
counted zero block range = refl
counted (suc more) block range = ap (λ (n : ℕ). suc n) (counted more (block + 1) range)

each : (more block number : ℕ) (range : ByteRange) → number < more → slice_get (pieces_from block more range) number ≡ Some (piece_in (block + number) range)
each zero block number range lt = absurd (omega (arith, lt))
each (suc more) block zero range lt = ap (λ (n : ℕ). Some (piece_in n range)) (let e : block ≡ block + 0 = omega arith in e)
each (suc more) block (suc number) range lt =
    each more (block + 1) number range (omega (arith, lt))
    ∙ ap (λ (n : ℕ). Some (piece_in n range)) (let e : block + 1 + number ≡ block + suc number = omega arith in e)

pub by-number : (range : ByteRange) → AreByNumber range
by-number range = record {
  count = counted (touched range) (range.offset / 512) range;
  each = λ number lt. each (touched range) (range.offset / 512) number range lt;
}
