-- One byte of a header of version 3 that changes leaves a header of no version: its check is wrong.
use Rattle.std.proofs.Common.{◌≡◌, ◌≢◌, ◌⊎◌, ⊎_elim, inl, inr, ℕ, zero, suc, ◌+◌, ◌-◌, ◌*◌, ◌^◌, ◌%◌, ◌/◌, ◌<◌, ◌≤◌, List, [], ◌∷◌, ◌++◌, length, take, drop, slice_index, set, refl, sym, ap, ◌∙◌, subst, arith, append_assoc}
use Rattle.std.proofs.Math.Nat.{add-mul, mul_assoc, pow-suc, mod-lt}
use Rattle.std.proofs.lemmas.List.{drop-append-le, drop-drop, drop-set-add, get_or_append_left, get_or-drop, get_or-set_other, get_or-set_same, length-drop, length-set, set-append_left, take-take, take_at}
use Rattle.std.proofs.lemmas.Nat.{div-add-mod'}
use Rattle.std.specs.Int.{byte_at, bytes_high_first}
use Rattle.byteorder.specs.Endian.{big_number}
use Rattle.byteorder.specs.Numbers.{big_from-append, big_from-cons, big_number-reads_back}
use Rattle.nm_superblock.specs.Damage.{ChangedHeadIsDamaged, HasBadSector, HasHead, HasHeadOf, IsBad, IsBlank}
use Rattle.nm_superblock.specs.Layout.{be, check_of, head_number, header_bytes, payload_bytes, piece_bytes, slot_bytes, zeroes}
use Rattle.nm_superblock.specs.Sectors.{sector_of, stamp_of}
use Rattle.nm_superblock.proofs.Standing.{length-header, sector-at}
use Rattle.nm_superblock.proofs.Undamaged.{bad-unread}
use Rattle.nm_superblock.proofs.Unique.{length-payload}
use Rattle.nm_superblock.proofs.Writing.{length-be}

-- a byte of weight 256 ^ k is no multiple of 65,521
no-multiple : (k byte q : ℕ) → byte < 256 → 1 ≤ byte → byte * 256 ^ k ≡ 65521 * q → ⊥
no-multiple zero byte q fits some is = omega (arith, fits, some, is)
no-multiple (suc k) byte q fits some is =
    let up : byte * 256 ^ suc k ≡ byte * 256 ^ k * 256 = ap (λ (w : ℕ). byte * w) (pow-suc 256 k) ∙ sym (mul_assoc byte (256 ^ k) 256) in
    no-multiple k byte (61170 * q - 239 * (byte * 256 ^ k)) fits some (omega (arith, up, is))

-- a number that becomes greater in one byte has another remainder
greater : (k old more n m : ℕ) → more < 256 → 1 ≤ more → n + old * 256 ^ k ≡ m + (old + more) * 256 ^ k → n % 65521 ≡ m % 65521 → ⊥
greater k old more n m fits some is same =
    let apart = add-mul old more (256 ^ k) in
    let whole_n = div-add-mod' n 65521 in
    let whole_m = div-add-mod' m 65521 in
    no-multiple k more (n / 65521 - m / 65521) fits some (omega (arith, apart, whole_n, whole_m, is, same))

-- and so has one that changes there
other-remainder : (k old new n m : ℕ) → old < 256 → new < 256 → new ≢ old → n + old * 256 ^ k ≡ m + new * 256 ^ k → n % 65521 ≡ m % 65521 → ⊥
other-remainder k old new n m old_fits new_fits differs is same =
    ⊎_elim
    (λ less.
    let all : old + (new - old) ≡ new = omega (arith, less) in
    greater k old (new - old) n m (omega (arith, new_fits)) (omega (arith, less)) (is ∙ ap (λ (x : ℕ). m + x * 256 ^ k) (sym all)) same)
    (λ more.
    let all : new + (old - new) ≡ old = omega (arith, more) in
    greater k new (old - new) m n (omega (arith, old_fits)) (omega (arith, more)) (sym is ∙ ap (λ (x : ℕ). n + x * 256 ^ k) (sym all)) (sym same))
    (split old new differs)
  where
    split : (a b : ℕ) → b ≢ a → (a < b) ⊎ (b < a)
    split a b other = grind (arith, other)

-- what a changed byte makes of a number
changed-number : (n j byte : ℕ) (xs : List ℕ) → j < n → n ≤ length xs
    → big_number n (set xs j byte) + slice_index xs j * 256 ^ (n - 1 - j) ≡ big_number n xs + byte * 256 ^ (n - 1 - j)
changed-number zero j byte xs below size = absurd (omega (arith, below))
changed-number (suc n) j byte [] below size = absurd (omega (arith, size))
changed-number (suc n) zero byte (x ∷ xs) below size =
    let now : big_number (suc n) (set (x ∷ xs) zero byte) ≡ byte * 256 ^ n + big_number n xs = ap (λ (r : ℕ). byte * 256 ^ n + r) (big_from-cons 0 n byte xs) in
    let was : big_number (suc n) (x ∷ xs) ≡ x * 256 ^ n + big_number n xs = ap (λ (r : ℕ). x * 256 ^ n + r) (big_from-cons 0 n x xs) in
    let place : suc n - 1 - zero ≡ n = omega arith in
    rw place (omega (arith, now, was))
changed-number (suc n) (suc j) byte (x ∷ xs) below size =
    let now : big_number (suc n) (set (x ∷ xs) (suc j) byte) ≡ x * 256 ^ n + big_number n (set xs j byte) = ap (λ (r : ℕ). x * 256 ^ n + r) (big_from-cons 0 n x (set xs j byte)) in
    let was : big_number (suc n) (x ∷ xs) ≡ x * 256 ^ n + big_number n xs = ap (λ (r : ℕ). x * 256 ^ n + r) (big_from-cons 0 n x xs) in
    let more = changed-number n j byte xs (omega (arith, below)) (omega (arith, size)) in
    let place : suc n - 1 - suc j ≡ n - 1 - j = omega arith in
    rw place (omega (arith, now, was, more))

-- a number's bytes are bytes
bytes-fit : (n x i : ℕ) → slice_index (bytes_high_first n x) i < 256
bytes-fit zero x i = omega arith
bytes-fit (suc n) x zero = byte-fits n
  where
    byte-fits : (k : ℕ) → byte_at k x < 256
    byte-fits zero = omega arith
    byte-fits (suc k) = omega arith
bytes-fit (suc n) x (suc i) = bytes-fit n x i

be-fit : (n x i : ℕ) → slice_index (be n x) i < 256
unfolding be
be-fit n x i = bytes-fit n x i

-- numbers of two bytes that are the same are the same
same-two : (x y : ℕ) → x < 65536 → y < 65536 → byte_at 1 x ≡ byte_at 1 y → byte_at 0 x ≡ byte_at 0 y → x ≡ y
same-two x y x_fits y_fits high low = omega (arith, x_fits, y_fits, high, low)

-- a header of version 3 of which one byte changed is one of a version
record Becomes (g g' n v at byte : ℕ) : Type 0 where
  fits : byte < 256
  differs : byte ≢ slice_index (header_bytes 3 g n) at
  version : (v ≡ 1) ⊎ ((v ≡ 2) ⊎ (v ≡ 3))
  here : slice_index (header_bytes v g' n) at ≡ byte
  others : (i : ℕ) → i ≢ at → slice_index (header_bytes v g' n) i ≡ slice_index (header_bytes 3 g n) i
  stamp : g' ≡ big_number 8 (drop 8 (set (header_bytes 3 g n) at byte))

-- a check is a number of two bytes, and not 0
check-fits : (g n : ℕ) → (check_of 3 g n < 65536) × (1 ≤ check_of 3 g n)
unfolding check_of
check-fits g n =
    let below = mod-lt (head_number 3 g n) {m = 65521} (omega arith) in
    (omega (arith, below), omega arith)

-- in a version before it is 0
no-check : (v g n : ℕ) → (v ≡ 1) ⊎ (v ≡ 2) → check_of v g n ≡ 0
unfolding check_of
no-check v g n which = ⊎_elim (λ one. rw one refl) (λ two. rw two refl) which

-- a stamp is read back
stamp-back : (g : ℕ) → g < 2 ^ 64 → big_number 8 (be 8 g) ≡ g
unfolding be
stamp-back g fits = big_number-reads_back 8 g [] fits

-- the bytes of a check say which it is
check-is : (v g' g n : ℕ) → (v ≡ 1) ⊎ ((v ≡ 2) ⊎ (v ≡ 3)) → byte_at 1 (check_of v g' n) ≡ byte_at 1 (check_of 3 g n)
    → byte_at 0 (check_of v g' n) ≡ byte_at 0 (check_of 3 g n) → (v ≡ 3) × (check_of 3 g' n ≡ check_of 3 g n)
check-is v g' g n which high low =
    ⊎_elim
    (λ one. absurd (before (no-check v g' n (inl one))))
    (λ later. ⊎_elim
    (λ two. absurd (before (no-check v g' n (inr two))))
    (λ three. (
      three,
      same-two (check_of 3 g' n) (check_of 3 g n) (check-fits g' n).0 (check-fits g n).0
          (subst (λ (k : ℕ). byte_at 1 (check_of k g' n) ≡ byte_at 1 (check_of 3 g n)) three high)
          (subst (λ (k : ℕ). byte_at 0 (check_of k g' n) ≡ byte_at 0 (check_of 3 g n)) three low),
    ))
    later)
    which
  where
    before : check_of v g' n ≡ 0 → ⊥
    before none =
        let fits = check-fits g n in
        let same : check_of v g' n ≡ check_of 3 g n = same-two (check_of v g' n) (check_of 3 g n) (omega (arith, none)) fits.0 high low in
        omega (arith, none, same, fits.1)

-- stamps that differ in one byte have other checks
other-check : (g g' n j byte : ℕ) → g < 2 ^ 64 → j < 8 → byte < 256 → byte ≢ slice_index (be 8 g) j
    → g' ≡ big_number 8 (set (be 8 g) j byte) → check_of 3 g' n ≡ check_of 3 g n → ⊥
unfolding check_of
other-check g g' n j byte fits place byte_fits differs stamp same =
    let changed = changed-number 8 j byte (be 8 g) place (omega (arith, length-be 8 g)) in
    let back = stamp-back g fits in
    other-remainder (8 - 1 - j) (slice_index (be 8 g) j) byte (head_number 3 g' n) (head_number 3 g n) (be-fit 8 g j) byte_fits differs
    (omega (arith, changed, back, stamp)) (omega (arith, same))

-- there is no such header
none-becomes : (g g' n v at byte : ℕ) → g < 2 ^ 64 → at < 16 → Becomes g g' n v at byte → ⊥
unfolding header_bytes be
none-becomes g g' n v zero byte fits below b = b.differs (sym b.here)
none-becomes g g' n v (suc zero) byte fits below b = b.differs (sym b.here)
none-becomes g g' n v (suc (suc zero)) byte fits below b = b.differs (sym b.here)
none-becomes g g' n v (suc (suc (suc zero))) byte fits below b = b.differs (sym b.here)
none-becomes g g' n v (suc (suc (suc (suc zero)))) byte fits below b =
    let is = check-is v g' g n b.version (b.others 6 (omega arith)) (b.others 7 (omega arith)) in
    b.differs (sym b.here ∙ is.0)
none-becomes g g' n v (suc (suc (suc (suc (suc zero))))) byte fits below b = b.differs (sym b.here)
none-becomes g g' n v (suc (suc (suc (suc (suc (suc zero)))))) byte fits below b =
    let three : v ≡ 3 = b.others 4 (omega arith) in
    let stamp : g' ≡ g = b.stamp ∙ stamp-back g fits in
    b.differs (sym b.here ∙ ap (λ (k : ℕ). byte_at 1 (check_of k g' n)) three ∙ ap (λ (k : ℕ). byte_at 1 (check_of 3 k n)) stamp)
none-becomes g g' n v (suc (suc (suc (suc (suc (suc (suc zero))))))) byte fits below b =
    let three : v ≡ 3 = b.others 4 (omega arith) in
    let stamp : g' ≡ g = b.stamp ∙ stamp-back g fits in
    b.differs (sym b.here ∙ ap (λ (k : ℕ). byte_at 0 (check_of k g' n)) three ∙ ap (λ (k : ℕ). byte_at 0 (check_of 3 k n)) stamp)
none-becomes g g' n v (suc (suc (suc (suc (suc (suc (suc (suc j)))))))) byte fits below b =
    let is = check-is v g' g n b.version (b.others 6 (omega arith)) (b.others 7 (omega arith)) in
    other-check g g' n j byte fits (omega (arith, below)) b.fits b.differs b.stamp is.1

-- a slot that has such a header in place of one of its own is damaged there
changed-sector : (slot rest : List ℕ) (g n at byte : ℕ) → g < 2 ^ 64 → at < 16 → byte < 256 → byte ≢ slice_index (header_bytes 3 g n) at
    → drop (512 * n) slot ≡ set (header_bytes 3 g n) at byte ++ rest → IsBad n slot
unfolding header_bytes zeroes
changed-sector slot rest g n at byte fits below byte_fits differs is = record {
  written = λ blank. absurd (not-blank blank (begins at));
  headless = λ has.
      none-becomes g (stamp_of n slot) n (version has.head).0 at byte fits below record {
        fits = byte_fits;
        differs = differs;
        version = (version has.head).1;
        here = ap (λ (xs : List ℕ). slice_index xs at) (sym (becomes has)) ∙ get_or-set_same (header_bytes 3 g n) at byte 0 (omega (arith, size, below));
        others = λ i other. ap (λ (xs : List ℕ). slice_index xs i) (sym (becomes has)) ∙ get_or-set_other (header_bytes 3 g n) at i byte 0 other;
        stamp = stamp;
      };
}
  where
    new : List ℕ
    new = set (header_bytes 3 g n) at byte

    size : length (header_bytes 3 g n) ≡ 16
    size = length-header 3 g n

    new-size : length new ≡ 16
    new-size = length-set (header_bytes 3 g n) at byte ∙ size

    version : HasHeadOf 1 n slot ⊎ (HasHeadOf 2 n slot ⊎ HasHeadOf 3 n slot)
        → (v : ℕ) × ((v ≡ 1) ⊎ ((v ≡ 2) ⊎ (v ≡ 3))) × HasHeadOf v n slot
    version (inl one) = (1, inl refl, one)
    version (inr (inl two)) = (2, inr (inl refl), two)
    version (inr (inr three)) = (3, inr (inr refl), three)

    front : take 16 (sector_of n slot) ≡ new
    front =
        take-take 16 512 (drop (512 * n) slot) (omega arith)
        ∙ ap (take 16) is
        ∙ take_at new rest 16 new-size

    becomes : (has : HasHead n slot) → new ≡ header_bytes (version has.head).0 (stamp_of n slot) n
    becomes has = sym front ∙ (version has.head).2

    stamp : stamp_of n slot ≡ big_number 8 (drop 8 new)
    stamp =
        let left = length-drop 8 new in
        ap (big_number 8) (sym (drop-drop 8 (512 * n) slot) ∙ ap (drop 8) is ∙ drop-append-le 8 new rest (omega (arith, new-size)))
        ∙ big_from-append 8 (drop 8 new) rest (omega (arith, left, new-size))

    begins : (place : ℕ) → (0 ≢ place) ⊎ (1 ≢ place)
    begins zero = inr (λ same. omega (arith, same))
    begins (suc place) = inl (λ same. omega (arith, same))

    not-blank : IsBlank n slot → (0 ≢ at) ⊎ (1 ≢ at) → ⊥
    not-blank blank which =
        let none : new ≡ take 16 (zeroes 512) = sym front ∙ ap (take 16) blank in
        ⊎_elim
        (λ first.
        let byte0 = sym (get_or-set_other (header_bytes 3 g n) at 0 byte 0 first) ∙ ap (λ (xs : List ℕ). slice_index xs 0) none in
        omega (arith, byte0))
        (λ second.
        let byte1 = sym (get_or-set_other (header_bytes 3 g n) at 1 byte 0 second) ∙ ap (λ (xs : List ℕ). slice_index xs 1) none in
        omega (arith, byte1))
        which

pub changed-damaged : ChangedHeadIsDamaged
unfolding slot_bytes
changed-damaged s number at byte is three room below fits differs =
    let found = sector-at s.version s.generation 8 number (payload_bytes s) room (omega (arith, length-payload s is)) in
    let head = header_bytes 3 s.generation number in
    let rest = piece_bytes number (payload_bytes s) ++ found.0 in
    let size = length-header 3 s.generation number in
    let there : drop (512 * number) (slot_bytes s) ≡ head ++ rest =
    found.1
    ∙ append_assoc (header_bytes s.version s.generation number) (piece_bytes number (payload_bytes s)) found.0
    ∙ ap (λ (v : ℕ). header_bytes v s.generation number ++ rest) three in
    let old : slice_index (slot_bytes s) (512 * number + at) ≡ slice_index head at =
    sym (get_or-drop (512 * number) (slot_bytes s) at 0)
    ∙ ap (λ (xs : List ℕ). slice_index xs at) there
    ∙ get_or_append_left head rest 0 at (omega (arith, size, below)) in
    let changed : List ℕ = set (slot_bytes s) (512 * number + at) byte in
    let here : drop (512 * number) changed ≡ set head at byte ++ rest =
    drop-set-add (512 * number) (slot_bytes s) at byte
    ∙ ap (λ (xs : List ℕ). set xs at byte) there
    ∙ set-append_left head rest at byte (omega (arith, size, below)) in
    let bad : HasBadSector changed = (
      number,
      room,
      changed-sector changed rest s.generation number at byte is.fits.generation below fits (λ same. differs (same ∙ sym old)) here,
    ) in
    record { unread = bad-unread changed bad; why = inr bad }
