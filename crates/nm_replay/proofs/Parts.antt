-- Bytes laid over a block: what is found of them, and what stays of the block.
use Rattle.std.proofs.Common.{◌≡◌, ℕ, ◌+◌, ◌≤◌, List, ◌++◌, length, take, drop, drop-drop, sym, ap, ◌∙◌, subst, arith, length-append, length-take, length-drop}
use Rattle.std.proofs.Math.Seq.{take-append_seam, drop-append_seam, drop-append-add}
use Rattle.std.proofs.lemmas.List.{take-append-drop}
use Rattle.nm_replay.specs.declared.block.Block.{Block}
use Rattle.nm_replay.specs.Array.{part_of, laid_at, SameOutside}

-- a list with another laid over it, from a place on
abbrev pub laid_over : ℕ → List ℕ → List ℕ → List ℕ
laid_over from part xs = take from xs ++ (part ++ drop (from + length part) xs)

front-length : (from : ℕ) (xs : List ℕ) → from ≤ length xs → length (take from xs) ≡ from
front-length from xs inside = omega (arith, inside, length-take from xs)

pub front-laid : (from : ℕ) (part xs : List ℕ) → from ≤ length xs → take from (laid_over from part xs) ≡ take from xs
front-laid from part xs inside =
    subst (λ n. take n (laid_over from part xs) ≡ take from xs) (front-length from xs inside)
    (take-append_seam (take from xs) (part ++ drop (from + length part) xs))

pub back-laid : (from n : ℕ) (part xs : List ℕ) → from ≤ length xs → drop (from + n) (laid_over from part xs) ≡ drop n (part ++ drop (from + length part) xs)
back-laid from n part xs inside =
    subst (λ k. drop (k + n) (laid_over from part xs) ≡ drop n (part ++ drop (from + length part) xs)) (front-length from xs inside)
    (drop-append-add (take from xs) (part ++ drop (from + length part) xs) n)

pub rest-laid : (from : ℕ) (part xs : List ℕ) → from ≤ length xs → drop (from + length part) (laid_over from part xs) ≡ drop (from + length part) xs
rest-laid from part xs inside =
    back-laid from (length part) part xs inside ∙ drop-append_seam part (drop (from + length part) xs)

pub part-laid : (from : ℕ) (part xs : List ℕ) → from ≤ length xs → take (length part) (drop from (laid_over from part xs)) ≡ part
part-laid from part xs inside =
    let none : from + 0 ≡ from = omega arith in
    let back : drop from (laid_over from part xs) ≡ part ++ drop (from + length part) xs = subst (λ n. drop n (laid_over from part xs) ≡ part ++ drop (from + length part) xs) none (back-laid from 0 part xs inside) in
    ap (λ ys. take (length part) ys) back ∙ take-append_seam part (drop (from + length part) xs)

pub length-laid : (from : ℕ) (part xs : List ℕ) → from + length part ≤ length xs → length (laid_over from part xs) ≡ length xs
length-laid from part xs inside =
    omega (arith, inside, length-append (take from xs) (part ++ drop (from + length part) xs), length-append part (drop (from + length part) xs), length-take from xs, length-drop (from + length part) xs)

-- the same, of blocks
pub part-is_where_laid : (from : ℕ) (bytes : List ℕ) (block : Block) → from + length bytes ≤ length block.0 → part_of from (length bytes) (laid_at from bytes block) ≡ bytes
part-is_where_laid from bytes block inside = part-laid from bytes block.0 (omega (arith, inside))

pub laying-keeps_rest : (from : ℕ) (bytes : List ℕ) (block : Block) → from + length bytes ≤ length block.0 → SameOutside from (length bytes) block (laid_at from bytes block)
laying-keeps_rest from bytes block inside = record {
  before = front-laid from bytes block.0 (omega (arith, inside));
  rest = rest-laid from bytes block.0 (omega (arith, inside));
}

-- a list that is another's outside a part is that one with the part laid over it
same-laid : (from len : ℕ) (xs ys : List ℕ) → from + len ≤ length ys → take from ys ≡ take from xs → drop (from + len) ys ≡ drop (from + len) xs → ys ≡ laid_over from (take len (drop from ys)) xs
same-laid from len xs ys inside before rest =
    let part : List ℕ = take len (drop from ys) in
    let size : length part ≡ len = omega (arith, inside, length-take len (drop from ys), length-drop from ys) in
    let tail : drop len (drop from ys) ≡ drop (from + length part) xs = drop-drop len from ys ∙ (rest ∙ ap (λ n. drop (from + n) xs) (sym size)) in
    sym (take-append-drop from ys)
    ∙ (ap (λ zs. zs ++ drop from ys) before
    ∙ ap (λ zs. take from xs ++ zs) (sym (take-append-drop len (drop from ys)) ∙ ap (λ zs. part ++ zs) tail))

pub same_outside-is_laid : (from len : ℕ) (old new : Block) → from + len ≤ length new.0 → SameOutside from len old new → new ≡ laid_at from (part_of from len new) old
same_outside-is_laid from len old new inside same =
    ap (λ bytes. let made : Block = record { 0 = bytes } in made) (same-laid from len old.0 new.0 inside same.before same.rest)
