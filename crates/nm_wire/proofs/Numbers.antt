-- Big-endian numbers: their length, that the bytes tell the number, and that any bytes are those of
-- the number that they make.
use Rattle.std.proofs.Common.{◌≡◌, ℕ, zero, suc, ◌+◌, ◌-◌, ◌*◌, ◌/◌, ◌^◌, ◌<◌, ◌≤◌, List, [], ◌∷◌, ◌++◌, length, take, drop, slice_index, refl, sym, ap, ◌∙◌, arith}
use Rattle.std.proofs.Math.Nat.{mod-lt}
use Rattle.std.proofs.lemmas.Nat.{div-mul-add}
use Rattle.std.proofs.Math.Seq.{take-add}
use Rattle.std.proofs.lemmas.List.{append-nil, drop_all, drop_at, length-drop, length-take-le, take_rest}
use Rattle.std.proofs.lemmas.Slice.{drop-put_mid, take-put_mid}
use borrow.Rule.Slice.PartMut.{put_mid}
use Rattle.std.specs.Int.{byte_at, bytes_high_first}
use Rattle.byteorder.specs.Endian.{big_from, big_number}
use Rattle.byteorder.specs.Numbers.{big_from-cons, big_from-take, big_from-lt, big_number-reads_back, length-bytes_high_first}
use Rattle.nm_wire.specs.Number.{be}

-- a number takes as many bytes as asked for
pub length-be : (width number : ℕ) → length (be width number) ≡ width
unfolding be
length-be width number = length-bytes_high_first width number

-- a number that fits is determined by its bytes, whatever follows
pub be-unique : (width x y : ℕ) (r s : List ℕ) → x < 256 ^ width → y < 256 ^ width
    → be width x ++ r ≡ be width y ++ s → (x ≡ y) × (r ≡ s)
unfolding be
be-unique width x y r s x_fits y_fits same = (
  sym (big_number-reads_back width x r x_fits) ∙ ap (big_number width) same ∙ big_number-reads_back width y s y_fits,
  sym (drop_at (be width x) r width (length-be width x)) ∙ ap (drop width) same ∙ drop_at (be width y) s width (length-be width y),
)

-- a number that fits is determined by its bytes
pub be-injective : (width x y : ℕ) → x < 256 ^ width → y < 256 ^ width → be width x ≡ be width y → x ≡ y
be-injective width x y x_fits y_fits same =
    (be-unique width x y [] [] x_fits y_fits (ap (λ (bytes : List ℕ). bytes ++ []) same)).0

-- each byte of a number is below 256
byte_at-lt : (i n : ℕ) → byte_at i n < 256
byte_at-lt zero n = mod-lt n (omega arith)
byte_at-lt (suc i) n = mod-lt (n / 256 ^ suc i) (omega arith)

-- the same at each place of the bytes
bytes-lt : (width n i : ℕ) → slice_index (bytes_high_first width n) i < 256
bytes-lt zero n i = omega arith
bytes-lt (suc width) n zero = byte_at-lt width n
bytes-lt (suc width) n (suc i) = bytes-lt width n i

-- the bytes after the first are below 256 too
rest-lt : (x : ℕ) (xs : List ℕ) → ((i : ℕ) → slice_index (x ∷ xs) i < 256) → (i : ℕ) → slice_index xs i < 256
rest-lt x xs h i = h (suc i)

-- as many bytes that make the same number are the same bytes
digits-unique : (width : ℕ) (xs ys : List ℕ) → length xs ≡ width → length ys ≡ width
    → ((i : ℕ) → slice_index xs i < 256) → ((i : ℕ) → slice_index ys i < 256)
    → big_from 0 width xs ≡ big_from 0 width ys → xs ≡ ys
digits-unique zero [] [] lx ly hx hy e = refl
digits-unique zero (x ∷ xs) ys lx ly hx hy e = absurd (omega arith)
digits-unique zero [] (y ∷ ys) lx ly hx hy e = absurd (omega arith)
digits-unique (suc width) [] ys lx ly hx hy e = absurd (omega arith)
digits-unique (suc width) (x ∷ xs) [] lx ly hx hy e = absurd (omega arith)
digits-unique (suc width) (x ∷ xs) (y ∷ ys) lx ly hx hy e =
    let at_x = big_from-cons 0 width x xs in
    let at_y = big_from-cons 0 width y ys in
    let low_x = big_from-lt 0 width xs (rest-lt x xs hx) in
    let low_y = big_from-lt 0 width ys (rest-lt y ys hy) in
    let whole : x * 256 ^ width + big_from 0 width xs ≡ y * 256 ^ width + big_from 0 width ys = omega (arith, e, at_x, at_y) in
    let first : x ≡ y =
    sym (div-mul-add x (256 ^ width) (big_from 0 width xs) low_x)
    ∙ ap (λ (n : ℕ). n / 256 ^ width) whole
    ∙ div-mul-add y (256 ^ width) (big_from 0 width ys) low_y in
    let low : big_from 0 width xs ≡ big_from 0 width ys =
    let top : x * 256 ^ width ≡ y * 256 ^ width = ap (λ (n : ℕ). n * 256 ^ width) first in
    omega (arith, whole, top) in
    let rest : xs ≡ ys = digits-unique width xs ys (omega arith) (omega arith) (rest-lt x xs hx) (rest-lt y ys hy) low in
    cc

-- the first bytes are below 256 where all are
take-lt : (n : ℕ) (xs : List ℕ) → ((i : ℕ) → slice_index xs i < 256) → (i : ℕ) → slice_index (take n xs) i < 256
take-lt zero xs h i = omega arith
take-lt (suc n) [] h i = omega arith
take-lt (suc n) (x ∷ xs) h zero = h 0
take-lt (suc n) (x ∷ xs) h (suc i) = take-lt n xs (rest-lt x xs h) i

-- the bytes from a place on are below 256 where all are
drop-lt : (n : ℕ) (xs : List ℕ) → ((i : ℕ) → slice_index xs i < 256) → (i : ℕ) → slice_index (drop n xs) i < 256
drop-lt zero xs h i = h i
drop-lt (suc n) [] h i = omega arith
drop-lt (suc n) (x ∷ xs) h i = drop-lt n xs (rest-lt x xs h) i

-- the first bytes are those of the number that they make
first-number : (width : ℕ) (xs : List ℕ) → ((i : ℕ) → slice_index xs i < 256) → width ≤ length xs
    → take width xs ≡ bytes_high_first width (big_from 0 width xs)
first-number width xs h room =
    let number : ℕ = big_from 0 width xs in
    let fits : number < 256 ^ width = big_from-lt 0 width xs h in
    let again : big_from 0 width (bytes_high_first width number) ≡ number =
    sym (ap (big_from 0 width) (append-nil (bytes_high_first width number))) ∙ big_number-reads_back width number [] fits in
    digits-unique width (take width xs) (bytes_high_first width number)
    (length-take-le width xs room) (length-bytes_high_first width number)
    (take-lt width xs h) (bytes-lt width number)
    (big_from-take 0 width width xs (omega arith) ∙ sym again)

-- the bytes from a place are those of the number that is read from there to the end
pub take-number : (width at number : ℕ) (xs : List ℕ) → ((i : ℕ) → slice_index xs i < 256) → at + width ≤ length xs
    → number ≡ big_number width (take (length xs - at) (drop at xs))
    → take (at + width) xs ≡ take at xs ++ be width number
unfolding be
take-number width at number xs h room read =
    let left = length-drop at xs in
    let whole : number ≡ big_number width (drop at xs) = read ∙ ap (big_number width) (take_rest xs at) in
    take-add at width xs
    ∙ ap (λ (part : List ℕ). take at xs ++ part) (first-number width (drop at xs) (drop-lt at xs h) (omega arith))
    ∙ ap (λ (n : ℕ). take at xs ++ bytes_high_first width n) (sym whole)

-- the part of the bytes that a number takes from the place `at`
abbrev pub place_of : ℕ → ℕ → List ℕ → List ℕ
place_of width at xs = take (at + width - at) (drop at xs)

-- it is as long as the number is wide
length-place_of : (width at : ℕ) (xs : List ℕ) → at + width ≤ length xs → length (place_of width at xs) ≡ width
length-place_of width at xs room =
    let left = length-drop at xs in
    let size : at + width - at ≡ width = omega arith in
    length-take-le (at + width - at) (drop at xs) (omega arith) ∙ size

-- a part that a number fills is that number's bytes
part-written : (width at number : ℕ) (xs part : List ℕ) → at + width ≤ length xs
    → part ≡ be width number ++ drop width (place_of width at xs) → part ≡ be width number
part-written width at number xs part room written =
    let size = length-place_of width at xs room in
    written
    ∙ ap (λ (end : List ℕ). be width number ++ end) (drop_all width (place_of width at xs) (omega arith))
    ∙ append-nil (be width number)

-- the bytes up to the end of a number that was written
pub take-written : (width at number : ℕ) (xs part : List ℕ) → at + width ≤ length xs
    → part ≡ be width number ++ drop width (place_of width at xs)
    → take (at + width) (put_mid at (at + width - at) xs part) ≡ take at xs ++ be width number
take-written width at number xs part room written =
    let whole = part-written width at number xs part room written in
    let size : length part ≡ width = ap length whole ∙ length-be width number in
    take-put_mid at (at + width - at) xs part (at + width) (omega arith) (omega arith)
    ∙ ap (λ (new : List ℕ). take at xs ++ new) whole

-- the bytes after a number that was written
pub drop-written : (width at number : ℕ) (xs part : List ℕ) → at + width ≤ length xs
    → part ≡ be width number ++ drop width (place_of width at xs)
    → drop (at + width) (put_mid at (at + width - at) xs part) ≡ drop (at + width) xs
drop-written width at number xs part room written =
    let whole = part-written width at number xs part room written in
    let size : length part ≡ width = ap length whole ∙ length-be width number in
    drop-put_mid at (at + width - at) xs part (at + width) (omega arith) (omega arith) (omega arith)
