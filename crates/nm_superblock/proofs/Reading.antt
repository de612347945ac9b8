-- What is read of a superblock's payload is that superblock.
use Rattle.std.proofs.Common.{◌≡◌, ℕ, suc, ◌+◌, ◌*◌, ◌-◌, ◌<◌, ◌^◌, Bool, true, false, ◌==◌, if◌then◌else◌, List, [], ◌∷◌, ◌++◌, length, take, drop, slice_index, refl, sym, ap, ◌∙◌, arith, get_or}
use Rattle.std.proofs.lemmas.List.{drop-drop, drop_at, get_or-drop, take_at}
use Rattle.byteorder.specs.Endian.{IsRead, big_number}
use Rattle.byteorder.specs.Numbers.{big_number-reads_back, length-bytes_high_first}
use Rattle.std.specs.Int.{bytes_high_first}
use Rattle.nm_superblock.specs.declared.superblock.Superblock.{Superblock}
use Rattle.nm_superblock.specs.Bounds.{AreNumbers}
use Rattle.nm_superblock.specs.Layout.{be, table_bytes}
use Rattle.nm_superblock.proofs.Fields.{length-table}

-- the numbers that were read of a table are the table's
pub table-same : (xs dst : List ℕ) → length dst ≡ length xs → ((i : ℕ) → slice_index xs i < 2 ^ 64)
    → IsRead big_number 8 (table_bytes xs) dst → dst ≡ xs
table-same [] [] size fit reads = refl
table-same [] (d ∷ dst) size fit reads = absurd (omega (arith, size))
table-same (x ∷ xs) [] size fit reads = absurd (omega (arith, size))
table-same (x ∷ xs) (d ∷ dst) size fit reads =
    let first : d ≡ x = reads 0 (omega arith) ∙ big_number-reads_back 8 x (table_bytes xs) (fit 0) in
    let rest : dst ≡ xs = table-same xs dst (omega (arith, size)) (λ i. fit (suc i)) (λ k below.
    let far : 8 * suc k ≡ 8 + 8 * k = omega arith in
    reads (suc k) (omega (arith, below))
    ∙ ap (λ (n : ℕ). big_number 8 (drop n (bytes_high_first 8 x ++ table_bytes xs))) far
    ∙ ap (big_number 8) (sym (drop-drop (8 * k) 8 (bytes_high_first 8 x ++ table_bytes xs))
    ∙ ap (drop (8 * k)) (drop_at (bytes_high_first 8 x) (table_bytes xs) 8 (length-bytes_high_first 8 x)))) in
    ap (λ (y : ℕ). y ∷ dst) first ∙ ap (λ (ys : List ℕ). x ∷ ys) rest

-- the numbers of a table that stands at a place
pub table-at : (at count : ℕ) (bytes table rest dst : List ℕ) → length dst ≡ count → AreNumbers count table
    → drop at bytes ≡ table_bytes table ++ rest
    → IsRead big_number 8 (take (at + 8 * count - at) (drop at bytes)) dst → dst ≡ table
table-at at count bytes table rest dst long numbers here reads =
    let whole = length-table table in
    let size : at + 8 * count - at ≡ length (table_bytes table) = omega (arith, whole, numbers.size) in
    let part : take (at + 8 * count - at) (drop at bytes) ≡ table_bytes table =
    ap (λ (n : ℕ). take n (drop at bytes)) size ∙ ap (take (length (table_bytes table))) here ∙ take_at (table_bytes table) rest (length (table_bytes table)) refl in
    table-same table dst (long ∙ sym numbers.size) numbers.fit (λ k below. reads k below ∙ ap (λ (xs : List ℕ). big_number 8 (drop (8 * k) xs)) part)

-- a number that stands at the head of bytes
pub number-at : (n number x : ℕ) (xs rest : List ℕ) → x < 256 ^ n → xs ≡ be n x ++ rest → number ≡ big_number n xs → number ≡ x
unfolding be
number-at n number x xs rest fits here read = read ∙ ap (big_number n) here ∙ big_number-reads_back n x rest fits

-- one byte of those at a place
pub byte-at : (at i : ℕ) (xs ys : List ℕ) → drop at xs ≡ ys → get_or xs (at + i) 0 ≡ get_or ys i 0
byte-at at i xs ys here = sym (get_or-drop at xs i 0) ∙ ap (λ (zs : List ℕ). get_or zs i 0) here

-- the bytes that stand at a place
pub bytes-at : (n : ℕ) (xs piece rest : List ℕ) → length piece ≡ n → xs ≡ piece ++ rest → take n xs ≡ piece
bytes-at n xs piece rest size here = ap (take n) here ∙ take_at piece rest n size

-- the flag is read back
pub flag-back : (clean : Bool) → ((if clean then 1 else 0) == 1) ≡ clean
flag-back true = refl
flag-back false = refl

-- a superblock is determined by its fields
pub same : (s : Superblock) (version generation mirror blocks region_blocks span_regions stripes legs leg : ℕ) (clean : Bool) (leg_ids seen sets lineages forks marked identities changed : List ℕ)
    → version ≡ s.version → generation ≡ s.generation → mirror ≡ s.mirror → blocks ≡ s.blocks → region_blocks ≡ s.region_blocks → span_regions ≡ s.span_regions
    → stripes ≡ s.stripes → legs ≡ s.legs → leg ≡ s.leg → clean ≡ s.clean
    → leg_ids ≡ s.leg_ids → seen ≡ s.seen → sets ≡ s.sets.bytes → lineages ≡ s.lineages → forks ≡ s.forks → marked ≡ s.marked.bytes → identities ≡ s.identities.words → changed ≡ s.changed
    → ◌≡◌ {A = Superblock} (record { version = version; generation = generation; mirror = mirror; blocks = blocks; region_blocks = region_blocks; span_regions = span_regions; stripes = stripes; legs = legs; leg = leg; clean = clean; leg_ids = leg_ids; seen = seen; sets = record { bytes = sets }; lineages = lineages; forks = forks; marked = record { bytes = marked }; identities = record { words = identities }; changed = changed }) s
same s version generation mirror blocks region_blocks span_regions stripes legs leg clean leg_ids seen sets lineages forks marked identities changed e1 e2 e3 e4 e5 e6 e7 e8 e9 e10 e11 e12 e13 e14 e15 e16 e17 e18 =
    rw (e1, e2, e3, e4, e5, e6, e7, e8, e9, e10, e11, e12, e13, e14, e15, e16, e17, e18) refl
