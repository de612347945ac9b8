-- A slot has the bytes of one superblock at most: stamp and payload are read back, field by field.
use Rattle.std.proofs.Common.{◌≡◌, ℕ, suc, ◌<◌, ◌^◌, Bool, true, false, if◌then◌else◌, List, [], ◌∷◌, ◌++◌, length, drop, slice_index, get_or, refl, sym, ap, ◌∙◌, arith}
use Rattle.std.proofs.lemmas.List.{drop_at}
use Rattle.std.specs.Int.{bytes_high_first}
use Rattle.byteorder.specs.Endian.{big_number}
use Rattle.byteorder.specs.Numbers.{big_number-reads_back, length-bytes_high_first}
use Rattle.nm_superblock.specs.declared.superblock.Superblock.{Superblock}
use Rattle.nm_superblock.specs.Bounds.{AreNumbers, IsSuperblock}
use Rattle.nm_superblock.specs.Layout.{be, header_bytes, payload_bytes, slot_bytes, table_bytes}
use Rattle.nm_superblock.specs.Slots.{SlotsAreRead}
use Rattle.nm_superblock.proofs.Fields.{Stands, fits-tables, stands}
use Rattle.nm_superblock.proofs.Reading.{bytes-at, same}
use Rattle.nm_superblock.proofs.Standing.{pieces-all, sector-at, stamp-is}
use Rattle.nm_superblock.specs.Sectors.{pieces_of, stamp_of}

-- a payload has 3,968 bytes
pub length-payload : (s : Superblock) → IsSuperblock s → length (payload_bytes s) ≡ 3968
length-payload s is = (stands s (payload_bytes s) (fits-tables s is.fits) refl).whole

-- a superblock's slot has its generation as the stamp of each sector
pub slot-stamp : (s : Superblock) (number : ℕ) → IsSuperblock s → number < 8 → stamp_of number (slot_bytes s) ≡ s.generation
unfolding slot_bytes
slot-stamp s number is below =
    stamp-is s.version s.generation 8 number (payload_bytes s) below (omega (arith, length-payload s is)) is.fits.generation

-- its version in the head of the first
pub slot-version : (s : Superblock) → IsSuperblock s → get_or (slot_bytes s) 4 0 ≡ s.version
unfolding slot_bytes header_bytes
slot-version s is =
    let at = sector-at s.version s.generation 8 0 (payload_bytes s) (omega arith) (omega (arith, length-payload s is)) in
    ap (λ (xs : List ℕ). get_or xs 4 0) at.1

-- and its payload in their pieces
pub slot-pieces : (s : Superblock) → IsSuperblock s → pieces_of 8 (slot_bytes s) ≡ payload_bytes s
unfolding slot_bytes
slot-pieces s is = pieces-all s.version s.generation (payload_bytes s) (length-payload s is)

-- the number that stands at the head of bytes is one
one-number : (n x y : ℕ) (xs r q : List ℕ) → x < 256 ^ n → y < 256 ^ n → xs ≡ be n x ++ r → xs ≡ be n y ++ q → x ≡ y
unfolding be
one-number n x y xs r q x_fits y_fits is_x is_y =
    sym (big_number-reads_back n x r x_fits) ∙ ap (big_number n) (sym is_x ∙ is_y) ∙ big_number-reads_back n y q y_fits

-- and so is the table
one-table : (xs ys r q : List ℕ) → length xs ≡ length ys → ((i : ℕ) → slice_index xs i < 2 ^ 64) → ((i : ℕ) → slice_index ys i < 2 ^ 64)
    → table_bytes xs ++ r ≡ table_bytes ys ++ q → xs ≡ ys
one-table [] [] r q size fit_x fit_y is = refl
one-table [] (y ∷ ys) r q size fit_x fit_y is = absurd (omega (arith, size))
one-table (x ∷ xs) [] r q size fit_x fit_y is = absurd (omega (arith, size))
one-table (x ∷ xs) (y ∷ ys) r q size fit_x fit_y is =
    let first : x ≡ y =
    sym (big_number-reads_back 8 x (table_bytes xs ++ r) (fit_x 0)) ∙ ap (big_number 8) is ∙ big_number-reads_back 8 y (table_bytes ys ++ q) (fit_y 0) in
    let behind : table_bytes xs ++ r ≡ table_bytes ys ++ q =
    sym (drop_at (bytes_high_first 8 x) (table_bytes xs ++ r) 8 (length-bytes_high_first 8 x))
    ∙ ap (drop 8) is
    ∙ drop_at (bytes_high_first 8 y) (table_bytes ys ++ q) 8 (length-bytes_high_first 8 y) in
    let rest : xs ≡ ys = one-table xs ys r q (omega (arith, size)) (λ i. fit_x (suc i)) (λ i. fit_y (suc i)) behind in
    ap (λ (z : ℕ). z ∷ xs) first ∙ ap (λ (zs : List ℕ). y ∷ zs) rest

same-tables : (n : ℕ) (xs ys all r q : List ℕ) → AreNumbers n xs → AreNumbers n ys → all ≡ table_bytes xs ++ r → all ≡ table_bytes ys ++ q → xs ≡ ys
same-tables n xs ys all r q x_are y_are is_x is_y =
    one-table xs ys r q (x_are.size ∙ sym y_are.size) x_are.fit y_are.fit (sym is_x ∙ is_y)

-- the flag is told by its byte
one-flag : (a b : Bool) → ◌≡◌ {A = ℕ} (if a then 1 else 0) (if b then 1 else 0) → a ≡ b
one-flag true true is = refl
one-flag true false is = absurd (omega (arith, is))
one-flag false true is = absurd (omega (arith, is))
one-flag false false is = refl

-- payloads that are the same are of superblocks that are the same
same-fields : (s t : Superblock) (payload : List ℕ) → IsSuperblock s → IsSuperblock t → s.version ≡ t.version → s.generation ≡ t.generation
    → Stands s payload → Stands t payload → s ≡ t
same-fields s t payload is_s is_t version generation a b =
    let small = sym a.small.1 ∙ b.small.1 in
    same t s.version s.generation s.mirror s.blocks s.region_blocks s.span_regions s.stripes s.legs s.leg s.clean s.leg_ids s.seen s.sets.bytes s.lineages s.forks s.marked.bytes s.identities.words s.changed
    version generation
    (one-number 16 s.mirror t.mirror payload a.mirror.0 b.mirror.0 is_s.fits.mirror is_t.fits.mirror a.mirror.1 b.mirror.1)
    (one-number 8 s.blocks t.blocks (drop 16 payload) a.export_blocks.0 b.export_blocks.0 is_s.fits.blocks is_t.fits.blocks a.export_blocks.1 b.export_blocks.1)
    (one-number 4 s.region_blocks t.region_blocks (drop 24 payload) a.region_blocks.0 b.region_blocks.0 is_s.fits.region_blocks is_t.fits.region_blocks a.region_blocks.1 b.region_blocks.1)
    (one-number 4 s.span_regions t.span_regions (drop 28 payload) a.span_regions.0 b.span_regions.0 is_s.fits.span_regions is_t.fits.span_regions a.span_regions.1 b.span_regions.1)
    (ap (λ (xs : List ℕ). get_or xs 0 0) small)
    (ap (λ (xs : List ℕ). get_or xs 1 0) small)
    (ap (λ (xs : List ℕ). get_or xs 2 0) small)
    (one-flag s.clean t.clean (ap (λ (xs : List ℕ). get_or xs 3 0) small))
    (same-tables 8 s.leg_ids t.leg_ids (drop 40 payload) a.leg_ids.0 b.leg_ids.0 is_s.fits.leg_ids is_t.fits.leg_ids a.leg_ids.1 b.leg_ids.1)
    (same-tables 8 s.seen t.seen (drop 104 payload) a.seen.0 b.seen.0 is_s.fits.seen is_t.fits.seen a.seen.1 b.seen.1)
    (sym (bytes-at 256 (drop 168 payload) s.sets.bytes a.sets.0 is_s.fits.sets a.sets.1) ∙ bytes-at 256 (drop 168 payload) t.sets.bytes b.sets.0 is_t.fits.sets b.sets.1)
    (same-tables 4 s.lineages t.lineages (drop 432 payload) a.lineages.0 b.lineages.0 is_s.fits.lineages is_t.fits.lineages a.lineages.1 b.lineages.1)
    (same-tables 4 s.forks t.forks (drop 464 payload) a.forks.0 b.forks.0 is_s.fits.forks is_t.fits.forks a.forks.1 b.forks.1)
    (sym (bytes-at 2048 (drop 496 payload) s.marked.bytes a.marked.0 is_s.fits.marked a.marked.1) ∙ bytes-at 2048 (drop 496 payload) t.marked.bytes b.marked.0 is_t.fits.marked b.marked.1)
    (same-tables 32 s.identities.words t.identities.words (drop 2544 payload) a.identities.0 b.identities.0 is_s.fits.identities is_t.fits.identities a.identities.1 b.identities.1)
    (same-tables 8 s.changed t.changed (drop 2800 payload) a.changed.0 b.changed.0 is_s.fits.changed is_t.fits.changed a.changed.1 b.changed.1)

pub slots-are_read : SlotsAreRead
slots-are_read s t is_s is_t is =
    let generation : s.generation ≡ t.generation = sym (slot-stamp s 0 is_s (omega arith)) ∙ ap (stamp_of 0) is ∙ slot-stamp t 0 is_t (omega arith) in
    let payload : payload_bytes s ≡ payload_bytes t = sym (slot-pieces s is_s) ∙ ap (pieces_of 8) is ∙ slot-pieces t is_t in
    let version : s.version ≡ t.version = sym (slot-version s is_s) ∙ ap (λ (xs : List ℕ). get_or xs 4 0) is ∙ slot-version t is_t in
    same-fields s t (payload_bytes s) is_s is_t version generation (stands s (payload_bytes s) (fits-tables s is_s.fits) refl) (stands t (payload_bytes s) (fits-tables t is_t.fits) payload)
