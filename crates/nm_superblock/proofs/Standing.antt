-- The sectors of a slot: where each stands, and that their stamp and their pieces are read back.
use Rattle.std.proofs.Common.{◌≡◌, ◌⊎◌, ⊎_elim, ℕ, zero, suc, ◌+◌, ◌*◌, ◌-◌, ◌<◌, ◌≤◌, ◌^◌, List, [], ◌++◌, length, take, drop, refl, sym, ap, ◌∙◌, subst, arith, length-append, append_assoc, add-one}
use Rattle.std.proofs.Math.Seq.{take-add}
use Rattle.std.proofs.lemmas.List.{append-nil, drop-append-le, drop-drop, drop-take, drop_at, length-drop, length-take-le, take_all, take_at}
use Rattle.byteorder.specs.Endian.{big_number}
use Rattle.byteorder.specs.Numbers.{big_number-reads_back}
use Rattle.nm_superblock.specs.Layout.{be, header_bytes, piece_bytes, sectors_bytes}
use Rattle.nm_superblock.specs.Sectors.{pieces_of, sector_of, stamp_of}
use Rattle.nm_superblock.proofs.Writing.{fixed, length-be}

-- a header has 16 bytes
pub length-header : (version generation number : ℕ) → length (header_bytes version generation number) ≡ 16
unfolding header_bytes be
length-header version generation number = ap (λ (n : ℕ). 8 + n) (length-be 8 generation)

-- a piece has 496 bytes
pub length-piece : (number : ℕ) (payload : List ℕ) → 496 * number + 496 ≤ length payload → length (piece_bytes number payload) ≡ 496
length-piece number payload room =
    let left = length-drop (496 * number) payload in
    length-take-le 496 (drop (496 * number) payload) (omega (arith, left))

-- a sector has 512 bytes
pub length-sector : (version generation number : ℕ) (payload : List ℕ) → 496 * number + 496 ≤ length payload
    → length (header_bytes version generation number ++ piece_bytes number payload) ≡ 512
length-sector version generation number payload room =
    length-append (header_bytes version generation number) (piece_bytes number payload)
    ∙ omega (arith, length-header version generation number, length-piece number payload room)

-- and so many sectors have so many times that
pub length-sectors : (version generation count : ℕ) (payload : List ℕ) → 496 * count ≤ length payload → length (sectors_bytes version generation count payload) ≡ 512 * count
unfolding sectors_bytes
length-sectors version generation zero payload room = refl
length-sectors version generation (suc number) payload room =
    let before = length-sectors version generation number payload (omega (arith, room)) in
    let sector = length-sector version generation number payload (omega (arith, room)) in
    length-append (sectors_bytes version generation number payload) (header_bytes version generation number ++ piece_bytes number payload)
    ∙ omega (arith, before, sector)

-- where a sector stands
pub sector-at : (version generation count number : ℕ) (payload : List ℕ) → number < count → 496 * count ≤ length payload
    → (rest : List ℕ) × (drop (512 * number) (sectors_bytes version generation count payload) ≡ (header_bytes version generation number ++ piece_bytes number payload) ++ rest)
unfolding sectors_bytes
sector-at version generation zero number payload below room = absurd (omega (arith, below))
sector-at version generation (suc last) number payload below room =
    let size = length-sectors version generation last payload (omega (arith, room)) in
    let split : (number ≡ last) ⊎ (number < last) = grind (arith, below) in
    ⊎_elim
    (λ is. (
      [],
      subst (λ (k : ℕ). drop (512 * number) (sectors_bytes version generation last payload ++ (header_bytes version generation k ++ piece_bytes k payload)) ≡ (header_bytes version generation number ++ piece_bytes number payload) ++ []) is
          (drop_at (sectors_bytes version generation last payload) (header_bytes version generation number ++ piece_bytes number payload) (512 * number) (size ∙ ap (λ (k : ℕ). 512 * k) (sym is))
          ∙ sym (append-nil (header_bytes version generation number ++ piece_bytes number payload))),
    ))
    (λ less.
    let found = sector-at version generation last number payload less (omega (arith, room)) in (
      found.0 ++ (header_bytes version generation last ++ piece_bytes last payload),
      drop-append-le (512 * number) (sectors_bytes version generation last payload) (header_bytes version generation last ++ piece_bytes last payload) (omega (arith, size, less))
          ∙ ap (λ (xs : List ℕ). xs ++ (header_bytes version generation last ++ piece_bytes last payload)) found.1
          ∙ append_assoc (header_bytes version generation number ++ piece_bytes number payload) found.0 (header_bytes version generation last ++ piece_bytes last payload),
    ))
    split

-- a sector of a payload's slot
pub sector-is : (version generation count number : ℕ) (payload : List ℕ) → number < count → 496 * count ≤ length payload
    → sector_of number (sectors_bytes version generation count payload) ≡ header_bytes version generation number ++ piece_bytes number payload
sector-is version generation count number payload below room =
    let at = sector-at version generation count number payload below room in
    ap (take 512) at.1 ∙ take_at (header_bytes version generation number ++ piece_bytes number payload) at.0 512 (length-sector version generation number payload (omega (arith, below, room)))

-- its stamp is the generation
pub stamp-is : (version generation count number : ℕ) (payload : List ℕ) → number < count → 496 * count ≤ length payload → generation < 2 ^ 64
    → stamp_of number (sectors_bytes version generation count payload) ≡ generation
unfolding header_bytes be
stamp-is version generation count number payload below room fits =
    let at = sector-at version generation count number payload below room in
    ap (big_number 8) (sym (drop-drop 8 (512 * number) (sectors_bytes version generation count payload)) ∙ ap (drop 8) at.1)
    ∙ ap (big_number 8) (ap (λ (xs : List ℕ). drop 8 xs) (append_assoc (header_bytes version generation number) (piece_bytes number payload) at.0))
    ∙ big_number-reads_back 8 generation (piece_bytes number payload ++ at.0) fits

-- behind its header stands its piece
pub behind-header : (version generation count number : ℕ) (payload : List ℕ) → number < count → 496 * count ≤ length payload
    → drop 16 (sector_of number (sectors_bytes version generation count payload)) ≡ piece_bytes number payload
behind-header version generation count number payload below room =
    ap (drop 16) (sector-is version generation count number payload below room)
    ∙ drop_at (header_bytes version generation number) (piece_bytes number payload) 16 (length-header version generation number)

-- the pieces of the first sectors are the payload's first bytes
pub pieces-are : (version generation count n : ℕ) (payload : List ℕ) → n ≤ count → 496 * count ≤ length payload
    → pieces_of n (sectors_bytes version generation count payload) ≡ take (496 * n) payload
unfolding pieces_of
pieces-are version generation count zero payload below room = refl
pieces-are version generation count (suc n) payload below room =
    let next : 496 * n + 496 ≡ 496 * suc n = omega arith in
    ap (λ (xs : List ℕ). xs ++ drop 16 (sector_of n (sectors_bytes version generation count payload))) (pieces-are version generation count n payload (omega (arith, below)) room)
    ∙ ap (λ (xs : List ℕ). take (496 * n) payload ++ xs) (behind-header version generation count n payload (omega (arith, below)) room)
    ∙ sym (take-add (496 * n) 496 payload)
    ∙ ap (λ (k : ℕ). take k payload) next

-- all of them are the payload
pub pieces-all : (version generation : ℕ) (payload : List ℕ) → length payload ≡ 3968 → pieces_of 8 (sectors_bytes version generation 8 payload) ≡ payload
pieces-all version generation payload size =
    pieces-are version generation 8 8 payload (omega arith) (omega (arith, size)) ∙ take_all 3968 payload (omega (arith, size))

-- one sector more is written: a header, and a piece behind it
pub one-more : (version generation n : ℕ) (payload slot slot1 slot2 header part : List ℕ) → 496 * n + 496 ≤ length payload
    → take (512 * n) slot ≡ sectors_bytes version generation n payload
    → header ≡ header_bytes version generation n
    → part ≡ piece_bytes n payload
    → take (512 * n + length header) slot1 ≡ take (512 * n) slot ++ header
    → take (512 * n + 16 + length part) slot2 ≡ take (512 * n + 16) slot1 ++ part
    → take (512 * (n + 1)) slot2 ≡ sectors_bytes version generation (n + 1) payload
unfolding sectors_bytes
one-more version generation n payload slot slot1 slot2 header part room so_far is_header is_part first second =
    let long_header : length header ≡ 16 = ap length is_header ∙ length-header version generation n in
    let long_part : length part ≡ 496 = ap length is_part ∙ length-piece n payload room in
    let end : 512 * n + 16 + 496 ≡ 512 * (n + 1) = omega arith in
    ap (λ (k : ℕ). take k slot2) (sym end)
    ∙ fixed (512 * n + 16) (length part) 496 slot2 (take (512 * n + 16) slot1 ++ part) long_part second
    ∙ ap (λ (xs : List ℕ). xs ++ part) (fixed (512 * n) (length header) 16 slot1 (take (512 * n) slot ++ header) long_header first)
    ∙ append_assoc (take (512 * n) slot) header part
    ∙ ap (λ (xs : List ℕ). xs ++ (header ++ part)) so_far
    ∙ ap (λ (xs : List ℕ). sectors_bytes version generation n payload ++ (xs ++ part)) is_header
    ∙ ap (λ (xs : List ℕ). sectors_bytes version generation n payload ++ (header_bytes version generation n ++ xs)) is_part
    ∙ ap (λ (k : ℕ). sectors_bytes version generation k payload) (sym (add-one n))

-- one piece more is read
pub piece-more : (n : ℕ) (slot payload payload1 : List ℕ) → 512 * n + 512 ≤ length slot
    → take (496 * n) payload ≡ pieces_of n slot
    → (part : List ℕ) → part ≡ take (512 * n + 512 - (512 * n + 16)) (drop (512 * n + 16) slot)
    → take (496 * n + length part) payload1 ≡ take (496 * n) payload ++ part
    → take (496 * (n + 1)) payload1 ≡ pieces_of (n + 1) slot
unfolding pieces_of
piece-more n slot payload payload1 room so_far part is written =
    let left = length-drop (512 * n + 16) slot in
    let size : 512 * n + 512 - (512 * n + 16) ≡ 496 = omega arith in
    let there : part ≡ take 496 (drop (512 * n + 16) slot) = is ∙ ap (λ (k : ℕ). take k (drop (512 * n + 16) slot)) size in
    let long : length part ≡ 496 = ap length there ∙ length-take-le 496 (drop (512 * n + 16) slot) (omega (arith, left)) in
    let behind : take 496 (drop (512 * n + 16) slot) ≡ drop 16 (sector_of n slot) =
    ap (take 496) (sym (drop-drop 16 (512 * n) slot)) ∙ sym (drop-take 16 496 (drop (512 * n) slot)) in
    let end : 496 * n + 496 ≡ 496 * (n + 1) = omega arith in
    ap (λ (k : ℕ). take k payload1) (sym end)
    ∙ fixed (496 * n) (length part) 496 payload1 (take (496 * n) payload ++ part) long written
    ∙ ap (λ (xs : List ℕ). xs ++ part) so_far
    ∙ ap (λ (xs : List ℕ). pieces_of n slot ++ xs) (there ∙ behind)
    ∙ ap (λ (k : ℕ). pieces_of k slot) (sym (add-one n))
