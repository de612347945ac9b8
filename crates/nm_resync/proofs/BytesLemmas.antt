-- Blocks that are cut from the bytes of a buffer, and the bytes that are lent.
use Rattle.std.proofs.Common.{◌≡◌, ⊎_elim, ℕ, zero, suc, ◌+◌, ◌-◌, ◌*◌, ◌/◌, ◌≤◌, IfSome, None, Some, Option, List, [], ◌∷◌, ◌++◌, length, length-append, length-drop, length-take, length-take-le, take, drop, refl, sym, ap, ◌∙◌, arith, Bool, true, false, cond, nat_lt}
use Rattle.std.specs.List.{refill}
use Rattle.std.proofs.Math.Seq.{drop-append_seam}
use Rattle.std.proofs.lemmas.Bool.{cases_lt}
use Rattle.std.proofs.lemmas.Bool.Decides.{nat_tests}
use Rattle.std.proofs.lemmas.List.{drop-drop, drop-take, take-append-le, take-take}
use Rattle.nm_replay.specs.declared.block.Block.{Block}
use Rattle.nm_leg.specs.Leg.{block_of, blocks_of as run_blocks, cut_into}
use Rattle.nm_leg.proofs.RunLemmas.{length-cut_into}
use Rattle.nm_resync.specs.declared.open_chunk.OpenChunk.{OpenChunk}
use Rattle.nm_resync.specs.Chunk.{Chunk, CopyBuffer, IsChunk, IsCopyBuffer, blocks_of, buffered_of, length_of, written_of}
use Rattle.nm_resync.specs.Inside.{IsInside, buffer_of, chunk_of, read_of}
use Rattle.nm_resync.specs.Moves.{IsRead, after_read, move_of}
use Rattle.nm_resync.specs.declared.copy_move.Move.{Move}
use Rattle.nm_resync.specs.declared.copy_move.Move.TheVariants.{Read, Write}

-- blocks are cut from their own bytes alone
pub cut-take : (n k : ℕ) (ys : List ℕ) → 512 * n ≤ k → cut_into n (take k ys) ≡ cut_into n ys
cut-take zero k ys le = refl
cut-take (suc n) k ys le =
    let e : k ≡ 512 + (k - 512) = omega (arith, le) in
    ap (λ (bs : List ℕ). block_of bs ∷ cut_into n (drop 512 (take k ys))) (take-take 512 k ys (omega (arith, le)))
    ∙ ap (λ (bs : List ℕ). block_of (take 512 ys) ∷ cut_into n bs) (ap (λ (m : ℕ). drop 512 (take m ys)) e ∙ drop-take 512 (k - 512) ys)
    ∙ ap (λ (bs : List Block). block_of (take 512 ys) ∷ bs) (cut-take n (k - 512) (drop 512 ys) (omega (arith, le)))

pub cut-front : (n : ℕ) (xs ys : List ℕ) → 512 * n ≤ length xs → cut_into n (xs ++ ys) ≡ cut_into n xs
cut-front n xs ys le =
    sym (cut-take n (512 * n) (xs ++ ys) (omega arith)) ∙ ap (λ (zs : List ℕ). cut_into n zs) (take-append-le (512 * n) xs ys le)
    ∙ cut-take n (512 * n) xs (omega arith)

-- more blocks are those that follow
pub cut-more : (n m : ℕ) (ys : List ℕ) → cut_into (n + m) ys ≡ cut_into n ys ++ cut_into m (drop (512 * n) ys)
cut-more zero m ys =
    let e : 0 + m ≡ m = omega arith in
    let f : 0 ≡ 512 * 0 = omega arith in
    ap (λ (k : ℕ). cut_into k ys) e ∙ ap (λ (k : ℕ). cut_into m (drop k ys)) f
cut-more (suc n) m ys =
    let e : suc n + m ≡ suc (n + m) = omega arith in
    let f : 512 + 512 * n ≡ 512 * suc n = omega arith in
    ap (λ (k : ℕ). cut_into k ys) e
    ∙ ap (λ (bs : List Block). block_of (take 512 ys) ∷ bs) (cut-more n m (drop 512 ys))
    ∙ ap (λ (zs : List ℕ). block_of (take 512 ys) ∷ (cut_into n (drop 512 ys) ++ cut_into m zs)) (drop-drop (512 * n) 512 ys ∙ ap (λ (k : ℕ). drop k ys) f)

take-cut : (n k : ℕ) (ys : List ℕ) → n ≤ k → take n (cut_into k ys) ≡ cut_into n ys
take-cut zero k ys le = refl
take-cut (suc n) zero ys le = absurd (let e : ⊥ = omega (arith, le) in e)
take-cut (suc n) (suc k) ys le = ap (λ (bs : List Block). block_of (take 512 ys) ∷ bs) (take-cut n k (drop 512 ys) (omega (arith, le)))

drop-cut : (n k : ℕ) (ys : List ℕ) → drop n (cut_into (n + k) ys) ≡ cut_into k (drop (512 * n) ys)
drop-cut n k ys =
    let front : List Block = cut_into n ys in
    let back : List Block = cut_into k (drop (512 * n) ys) in
    ap (λ (bs : List Block). drop n bs) (cut-more n k ys) ∙ ap (λ (m : ℕ). drop m (front ++ back)) (sym (length-cut_into n ys)) ∙ drop-append_seam front back

-- the bytes of some blocks are these blocks
pub cut-blocks : (number count read : ℕ) (bytes : List ℕ) → number + count ≤ read → cut_into count (take (512 * count) (drop (512 * number) bytes)) ≡ take count (drop number (cut_into read bytes))
cut-blocks number count read bytes le =
    let k : ℕ = read - number in
    let e : read ≡ number + k = omega (arith, le) in
    cut-take count (512 * count) (drop (512 * number) bytes) (omega arith)
    ∙ sym (
    ap (λ (n : ℕ). take count (drop number (cut_into n bytes))) e
    ∙ ap (λ (bs : List Block). take count bs) (drop-cut number k bytes)
    ∙ take-cut count k (drop (512 * number) bytes) (omega (arith, le)))

-- bytes that are written over others from a place on
pub lent : (from : ℕ) (xs w : List ℕ) → from ≤ length xs
    → take (length xs) ((take from xs ++ (w ++ drop (length w) (drop from xs))) ++ drop (length (take from xs ++ (w ++ drop (length w) (drop from xs)))) xs)
    ≡ take from xs ++ refill (length (drop from xs)) (drop from xs) w
lent zero xs w le =
    let all : List ℕ = w ++ drop (length w) xs in
    take-append-le (length xs) all (drop (length all) xs) (omega (arith, length-append w (drop (length w) xs), length-drop (length w) xs))
lent (suc from) [] w le = absurd (let e : ⊥ = omega (arith, le) in e)
lent (suc from) (x ∷ xs) w le = ap (λ (ys : List ℕ). x ∷ ys) (lent from xs w (omega (arith, le)))

-- the blocks that are read stay
chunk-stays : (xs ys : List ℕ) (chunk : Option OpenChunk) → 512 * read_of chunk ≤ length xs → chunk_of (take (512 * read_of chunk) xs ++ ys) chunk ≡ chunk_of xs chunk
chunk-stays xs ys None le = refl
chunk-stays xs ys (Some c) le =
    ap (λ (bs : List Block). let o : Option Chunk = Some (record { length = c.blocks; blocks = bs; written = c.written }) in o)
    (cut-front c.read (take (512 * c.read) xs) ys (omega (arith, length-take-le (512 * c.read) xs le))
    ∙ cut-take c.read (512 * c.read) xs (omega arith))

pub lent-view : (most : ℕ) (xs w : List ℕ) (chunk : Option OpenChunk) → 512 * read_of chunk ≤ length xs
    → buffer_of most (take (512 * read_of chunk) xs ++ refill (length (drop (512 * read_of chunk) xs)) (drop (512 * read_of chunk) xs) w) chunk
    ≡ record (buffer_of most xs chunk) { rest = refill (length (drop (512 * read_of chunk) xs)) (drop (512 * read_of chunk) xs) w }
lent-view most xs w chunk le =
    let from : ℕ = 512 * read_of chunk in
    let ys : List ℕ = refill (length (drop from xs)) (drop from xs) w in
    ap (λ (o : Option Chunk). let b : CopyBuffer = record { most = most; chunk = o; rest = drop from (take from xs ++ ys) } in b) (chunk-stays xs ys chunk le)
    ∙ ap (λ (zs : List ℕ). let b : CopyBuffer = record { most = most; chunk = chunk_of xs chunk; rest = zs } in b)
    (ap (λ (n : ℕ). drop n (take from xs ++ ys)) (sym (length-take-le from xs le)) ∙ drop-append_seam (take from xs) ys)

-- as many blocks are cut
pub cut_long : (n : ℕ) (bytes : List ℕ) → length (cut_into n bytes) ≡ n
cut_long n bytes = length-cut_into n bytes

-- the counts fit, so what they stand for is a buffer
pub is_buffer : (most : ℕ) (bytes : List ℕ) (chunk : Option OpenChunk) → IsInside most bytes chunk → IsCopyBuffer (buffer_of most bytes chunk)
is_buffer most bytes None i = record { size = i.size; chunk = tt }
is_buffer most bytes (Some c) i = record {
  size = i.size;
  chunk = record {
    some = i.counts.some;
    fits = i.counts.fits;
    read = omega (arith, length-cut_into c.read bytes, i.counts.read);
    unfinished = i.counts.unfinished;
    read_first = λ some. length-cut_into c.read bytes ∙ i.counts.read_first some;
  };
}

-- blocks that are read lower the work
pub read-lowers : (from count most : ℕ) (bytes : List ℕ) (o : Option Chunk) → IfSome o (IsChunk most) → length_of o ≤ from → IsRead (move_of o) → length (blocks_of o) + count ≤ length_of o
    → 2 * (from - written_of (after_read (cut_into count bytes) o)) - buffered_of (after_read (cut_into count bytes) o) + count ≡ 2 * (from - written_of o) - buffered_of o
read-lowers from count most bytes None is le reads within = absurd reads
read-lowers from count most bytes (Some c) is le reads within =
    let long : length (c.blocks ++ cut_into count bytes) ≡ length c.blocks + count = omega (arith, length-append c.blocks (cut_into count bytes), length-cut_into count bytes) in
    ⊎_elim
    (λ some. let full : length c.blocks ≡ c.length = is.read_first some in let unfinished = is.unfinished in omega (arith, full, long, within, le, unfinished))
    (λ none. omega (arith, none, long, within, le))
    (cases_lt 0 c.written)

-- bytes that were written over the first places are what stands there
pub refilled : (count : ℕ) (rest w : List ℕ) → length w ≡ 512 * count → length (take (512 * count) rest) ≡ 512 * count → cut_into count (refill (length rest) rest w) ≡ run_blocks w
refilled count rest w long room =
    let fits : 512 * count ≤ length rest = omega (arith, length-take (512 * count) rest, room) in
    let e : count ≡ length w / 512 = omega (arith, long) in
    cut-take count (length rest) (w ++ drop (length w) rest) fits ∙ cut-front count w (drop (length w) rest) (omega (arith, long)) ∙ ap (λ (n : ℕ). cut_into n w) e

-- blocks that were read stand after those that were there
pub filled-view : (most count : ℕ) (bytes : List ℕ) (o : Option OpenChunk) (c : OpenChunk) → o ≡ Some c
    → buffer_of most bytes (Some (record { blocks = c.blocks; read = c.read + count; written = c.written }))
    ≡ record { most = most; chunk = after_read (cut_into count (drop (512 * read_of o) bytes)) (chunk_of bytes o); rest = drop (512 * (c.read + count)) bytes }
filled-view most count bytes o c is =
    let new : List Block → CopyBuffer = λ bs. record { most = most; chunk = Some (record { length = c.blocks; blocks = bs; written = c.written }); rest = drop (512 * (c.read + count)) bytes } in
    let old : Option OpenChunk → CopyBuffer = λ p. record { most = most; chunk = after_read (cut_into count (drop (512 * read_of p) bytes)) (chunk_of bytes p); rest = drop (512 * (c.read + count)) bytes } in
    ap new (cut-more c.read count bytes) ∙ ap old (sym is)

-- where blocks are written all are read
reads-not : (b : Bool) (n m k : ℕ) → (let move : Move = cond b (Read n) (Write m) in move) ≡ Write k → b ≡ false
reads-not true n m k is = cc
reads-not false n m k is = refl

pub lent-blocks : (number count : ℕ) (bytes : List ℕ) (o : Option OpenChunk) → move_of (chunk_of bytes o) ≡ Write number → number + count ≤ length_of (chunk_of bytes o)
    → cut_into count (take (512 * count) (drop (512 * number) bytes)) ≡ take count (drop number (blocks_of (chunk_of bytes o)))
lent-blocks number count bytes None is within = cc
lent-blocks number count bytes (Some c) is within =
    let off : nat_lt (length (cut_into c.read bytes)) c.blocks ≡ false = reads-not (nat_lt (length (cut_into c.read bytes)) c.blocks) (length (cut_into c.read bytes)) c.written number is in
    let full : c.blocks ≤ length (cut_into c.read bytes) = grind (arith, nat_tests, off) in
    cut-blocks number count c.read bytes (omega (arith, within, full, length-cut_into c.read bytes))

-- a chunk has so many blocks at most
pub chunk-most : (c : CopyBuffer) → IsCopyBuffer c → length_of c.chunk ≤ 65536
chunk-most c is = by c.chunk is.chunk
  where
    by : (o : Option Chunk) → IfSome o (IsChunk c.most) → length_of o ≤ 65536
    by None some = omega arith
    by (Some k) some = omega (arith, some.fits, is.size.limit)

-- how far the bytes are read
pub read-count : (bytes : List ℕ) (chunk : Option OpenChunk) → length (blocks_of (chunk_of bytes chunk)) ≡ read_of chunk
read-count bytes None = refl
read-count bytes (Some c) = length-cut_into c.read bytes

pub read-inside : (most : ℕ) (bytes : List ℕ) (chunk : Option OpenChunk) → IsInside most bytes chunk → read_of chunk ≤ most
read-inside most bytes None i = omega arith
read-inside most bytes (Some c) i = omega (arith, i.counts.read, i.counts.fits)

-- the buffer once so many bytes were written over those from the next place on
pub lent-all : (most len from : ℕ) (xs w : List ℕ) (chunk : Option OpenChunk) → len ≡ length xs → from ≡ 512 * read_of chunk → 512 * read_of chunk ≤ length xs
    → buffer_of most (take len ((take from xs ++ (w ++ drop (length w) (drop from xs))) ++ drop (length (take from xs ++ (w ++ drop (length w) (drop from xs)))) xs)) chunk
    ≡ record (buffer_of most xs chunk) { rest = refill (length (drop (512 * read_of chunk) xs)) (drop (512 * read_of chunk) xs) w }
lent-all most len from xs w chunk long at le =
    let put : ℕ → ℕ → List ℕ = λ n f. take n ((take f xs ++ (w ++ drop (length w) (drop f xs))) ++ drop (length (take f xs ++ (w ++ drop (length w) (drop f xs)))) xs) in
    ap (λ (n : ℕ). buffer_of most (put n from) chunk) long
    ∙ ap (λ (f : ℕ). buffer_of most (put (length xs) f) chunk) at
    ∙ ap (λ (ys : List ℕ). buffer_of most ys chunk) (lent (512 * read_of chunk) xs w le)
    ∙ lent-view most xs w chunk le
