-- The pieces of a range.
use Rattle.std.proofs.Common.{◌≡◌, ℕ, zero, suc, ◌+◌, ◌-◌, ◌*◌, ◌/◌, ◌<◌, ◌==◌, inl, inr, false, ◌∷◌, ◌++◌, refl, ap, arith, pos_of_ne-zero}
use Rattle.std.proofs.lemmas.Bool.Decides.{eqb_tells}
use Rattle.nm_geometry.specs.declared.byte_range.ByteRange.{ByteRange}
use Rattle.nm_geometry.specs.Pieces.{end_of, touched, piece_in, pieces_from}

-- the first byte of the range, and some byte before its end, stand in the touched block
pub record Inside (range : ByteRange) (number : ℕ) : Type 0 where
  pub some : 0 < range.length
  pub goes_on : 512 * (range.offset / 512 + number) < end_of range

inside-of : (range : ByteRange) (number : ℕ) → (range.length == 0) ≡ false → 0 < range.length → number < touched range → Inside range number
inside-of range number full some lt =
    let upto : number < (end_of range - 1) / 512 - range.offset / 512 + 1 = rw full at lt in
    record { some = some; goes_on = omega (arith, upto, some) }

pub touched-inside : (range : ByteRange) (number : ℕ) → number < touched range → Inside range number
touched-inside range number lt = elim (eqb_tells range.length 0) [
  | inl none ↦ absurd (let h : number < 0 = rw none.0 at lt in omega (arith, h))
  | inr some ↦ inside-of range number some.0 (pos_of_ne-zero some.1) lt
]

-- the pieces of some blocks, and of those after them
pub pieces-add : (block n m : ℕ) (range : ByteRange) → pieces_from block (n + m) range ≡ pieces_from block n range ++ pieces_from (block + n) m range
pieces-add block zero m range = let a : 0 + m ≡ m = omega arith in let b : block + 0 ≡ block = omega arith in rw (a, b) refl
pieces-add block (suc n) m range =
    let a : suc n + m ≡ suc (n + m) = omega arith in
    let b : block + suc n ≡ block + 1 + n = omega arith in
    rw (a, b) (ap (λ ps. piece_in block range ∷ ps) (pieces-add (block + 1) n m range))
