-- Blocks compared byte by byte.
use Rattle.std.proofs.Common.{◌≡◌, ℕ, ◌+◌, ◌-◌, ◌↔◌, inl, inr, Bool, true, false, IsTrue, List, length, take, drop, min, length-drop, ap, sym, ◌∙◌, subst, arith, eqb}
use Rattle.std.specs.Cmp.Lexicographic.{pointwise, bytes_decides}
use Rattle.std.proofs.lemmas.Bool.{cases_lt}
use Rattle.std.proofs.lemmas.List.{take_min, take_all, drop_all}
use Rattle.nm_replay.specs.declared.block.Block.{Block}
use Rattle.nm_replay.specs.Array.{SameOutside}

-- lists that are compared byte by byte
pub same_bytes : (xs ys : List ℕ) (test : Bool) → test ≡ pointwise eqb xs ys → IsTrue test ↔ (xs ≡ ys)
same_bytes xs ys test tested = (
  λ yes. (bytes_decides xs ys).0 (sym tested ∙ yes),
  λ same. tested ∙ (bytes_decides xs ys).1 same,
)

-- the earlier of a block and the end of it, each up to a place that is held within the block
within_front : (from n : ℕ) (xs : List ℕ) → length xs ≡ n → take (min from n) xs ≡ take from xs
within_front from n xs size = ap (λ m. take (min from m) xs) (sym size) ∙ take_min from xs

within_end : (from len n : ℕ) (xs : List ℕ) → length xs ≡ n → take (n - min (min from n + len) n) (drop (min (min from n + len) n) xs) ≡ drop (from + len) xs
within_end from len n xs size =
    let end : ℕ = min (min from n + len) n in
    let whole : take (n - end) (drop end xs) ≡ drop end xs = take_all (n - end) (drop end xs) (omega (arith, size, length-drop end xs)) in
    whole ∙ elim (cases_lt (from + len) n) [
      | inl low ↦ ap (λ k. drop k xs) (let same : end ≡ from + len = omega (arith, low) in same)
      | inr high ↦ drop_all end xs (omega (arith, size, high)) ∙ sym (drop_all (from + len) xs (omega (arith, size, high)))
    ]

-- where a block's earlier is another's, a test of their ends tells whether they are the same outside
-- a part
pub same_rest : (from len : ℕ) (old new : Block) (start end : ℕ) (earlier rest : Bool) → length old.0 ≡ 512 → length new.0 ≡ 512 → start ≡ min from 512 → end ≡ min (start + len) 512 → earlier ≡ pointwise eqb (take start old.0) (take start new.0) → rest ≡ pointwise eqb (take (512 - end) (drop end old.0)) (take (512 - end) (drop end new.0)) → earlier ≡ true → IsTrue rest ↔ SameOutside from len old new
same_rest from len old new start end earlier rest olds news starts ends fronts rests alike =
    let P : ℕ → Type 0 = λ s. (end ≡ min (s + len) 512) in
    let ended : end ≡ min (min from 512 + len) 512 = subst P starts ends in
    let tail : (xs : List ℕ) → length xs ≡ 512 → take (512 - end) (drop end xs) ≡ drop (from + len) xs = λ xs size. ap (λ e. take (512 - e) (drop e xs)) ended ∙ within_end from len 512 xs size in
    let head : (xs : List ℕ) → length xs ≡ 512 → take start xs ≡ take from xs = λ xs size. ap (λ s. take s xs) starts ∙ within_front from 512 xs size in
    let before : take start old.0 ≡ take start new.0 = (same_bytes (take start old.0) (take start new.0) earlier fronts).0 alike in
    let told = same_bytes (take (512 - end) (drop end old.0)) (take (512 - end) (drop end new.0)) rest rests in (
      λ same. record {
        before = sym (head new.0 news) ∙ (sym before ∙ head old.0 olds);
        rest = sym (tail new.0 news) ∙ (sym (told.0 same) ∙ tail old.0 olds);
      },
      λ outside. told.1 (tail old.0 olds ∙ (sym outside.rest ∙ sym (tail new.0 news))),
    )

pub other_front : (from len : ℕ) (old new : Block) (start : ℕ) (earlier : Bool) → length old.0 ≡ 512 → length new.0 ≡ 512 → start ≡ min from 512 → earlier ≡ pointwise eqb (take start old.0) (take start new.0) → earlier ≡ false → IsTrue earlier ↔ SameOutside from len old new
other_front from len old new start earlier olds news starts fronts differs =
    let head : (xs : List ℕ) → length xs ≡ 512 → take start xs ≡ take from xs = λ xs size. ap (λ s. take s xs) starts ∙ within_front from 512 xs size in (
      λ yes. absurd (let clash : true ≡ false = sym yes ∙ differs in cc),
      λ outside. (same_bytes (take start old.0) (take start new.0) earlier fronts).1 (head old.0 olds ∙ (sym outside.before ∙ sym (head new.0 news))),
    )
