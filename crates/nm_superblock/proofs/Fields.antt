-- The fields of a payload: their lengths, and where each stands.
use Rattle.std.proofs.Common.{◌≡◌, ℕ, ◌+◌, ◌*◌, if◌then◌else◌, List, [], ◌∷◌, ◌++◌, length, take, drop, refl, sym, ap, ◌∙◌, arith, length-append, append_assoc}
use Rattle.std.proofs.lemmas.List.{drop-drop, drop_at, length-drop, length-replicate, length-take-le, take-append-drop, take_at}
use Rattle.sha2.specs.Sha256.{sha256}
use Rattle.sha2.proofs.Facts256.{length-sha256}
use Rattle.nm_superblock.specs.declared.superblock.Superblock.{Superblock}
use Rattle.nm_superblock.specs.Bounds.{Fits}
use Rattle.nm_superblock.specs.Layout.{be, digest_bytes, head_bytes, payload_bytes, table_bytes, tail_bytes, zeroes}
use Rattle.nm_superblock.proofs.Writing.{length-be}
use Rattle.byteorder.specs.Numbers.{length-bytes_high_first}

-- a table's length
pub length-table : (numbers : List ℕ) → length (table_bytes numbers) ≡ 8 * length numbers
length-table [] = refl
length-table (x ∷ numbers) =
    let one = length-bytes_high_first 8 x in
    let more = length-table numbers in
    omega (arith, more)

-- so many zeroes
pub length-zeroes : (count : ℕ) → length (zeroes count) ≡ count
unfolding zeroes
length-zeroes count = length-replicate count 0

-- the lengths of the tables of a superblock
pub record HasTables (s : Superblock) : Type 0 where
  pub leg_ids : length s.leg_ids ≡ 8
  pub seen : length s.seen ≡ 8
  pub sets : length s.sets.bytes ≡ 256
  pub lineages : length s.lineages ≡ 4
  pub forks : length s.forks ≡ 4
  pub marked : length s.marked.bytes ≡ 2048
  pub identities : length s.identities.words ≡ 32
  pub changed : length s.changed ≡ 8

pub fits-tables : (s : Superblock) → Fits s → HasTables s
fits-tables s fits = record { leg_ids = fits.leg_ids.size; seen = fits.seen.size; sets = fits.sets; lineages = fits.lineages.size; forks = fits.forks.size; marked = fits.marked; identities = fits.identities.size; changed = fits.changed.size }

-- the digest has 8 bytes
pub length-digest : (s : Superblock) → length (digest_bytes s) ≡ 8
unfolding digest_bytes
length-digest s =
    let all = length-sha256 (head_bytes s ++ zeroes 8 ++ tail_bytes s) in
    length-take-le 8 (sha256 (head_bytes s ++ zeroes 8 ++ tail_bytes s)) (omega (arith, all))

-- what stands behind a piece
pub next : (at n : ℕ) (xs piece rest : List ℕ) → drop at xs ≡ piece ++ rest → length piece ≡ n → drop (at + n) xs ≡ rest
next at n xs piece rest here size = sym (drop-drop n at xs) ∙ ap (drop n) here ∙ drop_at piece rest n size

-- the payload from each field on
pub record Stands (s : Superblock) (payload : List ℕ) : Type 0 where
  pub mirror : (rest : List ℕ) × (payload ≡ be 16 s.mirror ++ rest)
  pub export_blocks : (rest : List ℕ) × (drop 16 payload ≡ be 8 s.blocks ++ rest)
  pub region_blocks : (rest : List ℕ) × (drop 24 payload ≡ be 4 s.region_blocks ++ rest)
  pub span_regions : (rest : List ℕ) × (drop 28 payload ≡ be 4 s.span_regions ++ rest)
  pub small : (rest : List ℕ) × (drop 32 payload ≡ (s.stripes ∷ s.legs ∷ s.leg ∷ (if s.clean then 1 else 0) ∷ 0 ∷ 0 ∷ 0 ∷ 0 ∷ []) ++ rest)
  pub leg_ids : (rest : List ℕ) × (drop 40 payload ≡ table_bytes s.leg_ids ++ rest)
  pub seen : (rest : List ℕ) × (drop 104 payload ≡ table_bytes s.seen ++ rest)
  pub sets : (rest : List ℕ) × (drop 168 payload ≡ s.sets.bytes ++ rest)
  pub digest : (rest : List ℕ) × (drop 424 payload ≡ digest_bytes s ++ rest)
  pub lineages : (rest : List ℕ) × (drop 432 payload ≡ table_bytes s.lineages ++ rest)
  pub forks : (rest : List ℕ) × (drop 464 payload ≡ table_bytes s.forks ++ rest)
  pub marked : (rest : List ℕ) × (drop 496 payload ≡ s.marked.bytes ++ rest)
  pub identities : (rest : List ℕ) × (drop 2544 payload ≡ table_bytes s.identities.words ++ rest)
  pub changed : (rest : List ℕ) × (drop 2800 payload ≡ table_bytes s.changed ++ rest)
  pub whole : length payload ≡ 3968

-- each field stands at its place
pub stands : (s : Superblock) (payload : List ℕ) → HasTables s → payload ≡ payload_bytes s → Stands s payload
unfolding payload_bytes head_bytes tail_bytes
stands s payload has is =
    let y2 = table_bytes s.changed ++ zeroes 1104 in
    let y1 = table_bytes s.identities.words ++ y2 in
    let y0 = s.marked.bytes ++ y1 in
    let z1 = table_bytes s.forks ++ y0 in
    let z2 = table_bytes s.lineages ++ z1 in
    let z3 = digest_bytes s ++ z2 in
    let z4 = s.sets.bytes ++ z3 in
    let z5 = table_bytes s.seen ++ z4 in
    let z6 = table_bytes s.leg_ids ++ z5 in
    let small : List ℕ = s.stripes ∷ s.legs ∷ s.leg ∷ (if s.clean then 1 else 0) ∷ 0 ∷ 0 ∷ 0 ∷ 0 ∷ [] in
    let z7 = small ++ z6 in
    let z8 = be 4 s.span_regions ++ z7 in
    let z9 = be 4 s.region_blocks ++ z8 in
    let z10 = be 8 s.blocks ++ z9 in
    let apart : payload ≡ be 16 s.mirror ++ z10 = is ∙ simp append_assoc refl in
    let d16 : drop 16 payload ≡ z10 = next 0 16 payload (be 16 s.mirror) z10 apart (length-be 16 s.mirror) in
    let d24 : drop 24 payload ≡ z9 = next 16 8 payload (be 8 s.blocks) z9 d16 (length-be 8 s.blocks) in
    let d28 : drop 28 payload ≡ z8 = next 24 4 payload (be 4 s.region_blocks) z8 d24 (length-be 4 s.region_blocks) in
    let d32 : drop 32 payload ≡ z7 = next 28 4 payload (be 4 s.span_regions) z7 d28 (length-be 4 s.span_regions) in
    let d40 : drop 40 payload ≡ z6 = next 32 8 payload small z6 d32 refl in
    let d104 : drop 104 payload ≡ z5 = next 40 64 payload (table_bytes s.leg_ids) z5 d40 (length-table s.leg_ids ∙ ap (λ (n : ℕ). 8 * n) has.leg_ids) in
    let d168 : drop 168 payload ≡ z4 = next 104 64 payload (table_bytes s.seen) z4 d104 (length-table s.seen ∙ ap (λ (n : ℕ). 8 * n) has.seen) in
    let d424 : drop 424 payload ≡ z3 = next 168 256 payload s.sets.bytes z3 d168 has.sets in
    let d432 : drop 432 payload ≡ z2 = next 424 8 payload (digest_bytes s) z2 d424 (length-digest s) in
    let d464 : drop 464 payload ≡ z1 = next 432 32 payload (table_bytes s.lineages) z1 d432 (length-table s.lineages ∙ ap (λ (n : ℕ). 8 * n) has.lineages) in
    let d496 : drop 496 payload ≡ y0 = next 464 32 payload (table_bytes s.forks) y0 d464 (length-table s.forks ∙ ap (λ (n : ℕ). 8 * n) has.forks) in
    let d2544 : drop 2544 payload ≡ y1 = next 496 2048 payload s.marked.bytes y1 d496 has.marked in
    let d2800 : drop 2800 payload ≡ y2 = next 2544 256 payload (table_bytes s.identities.words) y2 d2544 (length-table s.identities.words ∙ ap (λ (n : ℕ). 8 * n) has.identities) in
    let d2864 : drop 2864 payload ≡ zeroes 1104 = next 2800 64 payload (table_bytes s.changed) (zeroes 1104) d2800 (length-table s.changed ∙ ap (λ (n : ℕ). 8 * n) has.changed) in
    record {
      mirror = (z10, apart);
      export_blocks = (z9, d16);
      region_blocks = (z8, d24);
      span_regions = (z7, d28);
      small = (z6, d32);
      leg_ids = (z5, d40);
      seen = (z4, d104);
      sets = (z3, d168);
      digest = (z2, d424);
      lineages = (z1, d432);
      forks = (y0, d464);
      marked = (y1, d496);
      identities = (y2, d2544);
      changed = (zeroes 1104, d2800);
      whole =
          let left = length-drop 2864 payload in
          let end : length (drop 2864 payload) ≡ 1104 = ap length d2864 ∙ length-zeroes 1104 in
          omega (arith, left, end);
    }

-- the digest takes the place of the zeroes
pub digest-in : (head zero_bytes tail payload new digest : List ℕ) → length head ≡ 424 → length zero_bytes ≡ 8 → length digest ≡ 8
    → payload ≡ head ++ zero_bytes ++ tail
    → take (424 + length digest) new ≡ take 424 payload ++ digest
    → drop (424 + length digest) new ≡ drop (424 + length digest) payload
    → new ≡ head ++ digest ++ tail
digest-in head zero_bytes tail payload new digest size_head size_zeroes size is first rest =
    let apart : payload ≡ head ++ (zero_bytes ++ tail) = is ∙ append_assoc head zero_bytes tail in
    let before : take 424 payload ≡ head = ap (take 424) apart ∙ take_at head (zero_bytes ++ tail) 424 size_head in
    let at : drop 424 payload ≡ zero_bytes ++ tail = ap (drop 424) apart ∙ drop_at head (zero_bytes ++ tail) 424 size_head in
    let after : drop 432 payload ≡ tail = next 424 8 payload zero_bytes tail at size_zeroes in
    let behind : drop (424 + length digest) payload ≡ tail = ap (λ (n : ℕ). drop (424 + n) payload) size ∙ after in
    sym (take-append-drop (424 + length digest) new)
    ∙ ap (λ (xs : List ℕ). xs ++ drop (424 + length digest) new) (first ∙ ap (λ (xs : List ℕ). xs ++ digest) before)
    ∙ ap (λ (xs : List ℕ). (head ++ digest) ++ xs) (rest ∙ behind)

-- the length of the payload's head
pub length-head : (s : Superblock) → length s.leg_ids ≡ 8 → length s.seen ≡ 8 → length s.sets.bytes ≡ 256 → length (head_bytes s) ≡ 424
unfolding head_bytes
length-head s leg_ids seen sets =
    simp (length-append, length-be, length-table) (omega (arith, leg_ids, seen, sets))
