-- Parts that are written into a list: what stands up to their end, and behind it.
use Rattle.std.proofs.Common.{◌≡◌, ℕ, ◌+◌, ◌-◌, ◌≤◌, List, ◌++◌, length, take, drop, ap, ◌∙◌, subst, arith}
use Rattle.std.proofs.lemmas.List.{append-nil, drop_all, length-drop, length-take-le}
use Rattle.std.proofs.lemmas.Slice.{drop-put_mid, take-put_mid}
use borrow.Rule.Slice.PartMut.{put_mid}
use Rattle.byteorder.specs.Numbers.{length-bytes_high_first}
use Rattle.nm_superblock.specs.Layout.{be}

-- a number takes as many bytes as asked for
pub length-be : (width number : ℕ) → length (be width number) ≡ width
unfolding be
length-be width number = length-bytes_high_first width number

-- the bytes up to the end of a part that was written
pub take-part : (n at : ℕ) (xs part whole : List ℕ) → at + n ≤ length xs → length whole ≡ n → part ≡ whole
    → take (at + n) (put_mid at (at + n - at) xs part) ≡ take at xs ++ whole
take-part n at xs part whole room size is =
    let long : length part ≡ n = ap length is ∙ size in
    take-put_mid at (at + n - at) xs part (at + n) (omega (arith, long)) (omega arith)
    ∙ ap (λ (new : List ℕ). take at xs ++ new) is

-- the bytes behind it
pub drop-part : (n at : ℕ) (xs part : List ℕ) → at + n ≤ length xs → length part ≡ n
    → drop (at + n) (put_mid at (at + n - at) xs part) ≡ drop (at + n) xs
drop-part n at xs part room size =
    drop-put_mid at (at + n - at) xs part (at + n) (omega arith) (omega arith) (omega (arith, size))

-- the length of a part
pub length-part : (n at : ℕ) (xs : List ℕ) → at + n ≤ length xs → length (take (at + n - at) (drop at xs)) ≡ n
length-part n at xs room =
    let left = length-drop at xs in
    let size : at + n - at ≡ n = omega arith in
    length-take-le (at + n - at) (drop at xs) (omega arith) ∙ size

-- the bytes up to the end of a number that was written
pub take-number : (n at number : ℕ) (xs part : List ℕ) → at + n ≤ length xs
    → part ≡ be n number ++ drop n (take (at + n - at) (drop at xs))
    → take (at + n) (put_mid at (at + n - at) xs part) ≡ take at xs ++ be n number
take-number n at number xs part room written =
    let size = length-part n at xs room in
    let whole : part ≡ be n number =
    written
    ∙ ap (λ (end : List ℕ). be n number ++ end) (drop_all n (take (at + n - at) (drop at xs)) (omega (arith, size)))
    ∙ append-nil (be n number) in
    take-part n at xs part (be n number) room (length-be n number) whole

-- the end of a part whose length is known
pub fixed : (at n k : ℕ) (xs ys : List ℕ) → n ≡ k → take (at + n) xs ≡ ys → take (at + k) xs ≡ ys
fixed at n k xs ys is e = subst (λ (m : ℕ). take (at + m) xs ≡ ys) is e
