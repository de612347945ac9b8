-- A piece range of the runs of a range: its first runs and the others, and what is put into them.
use Rattle.std.proofs.Common.{◌≡◌, inl, inr, ℕ, zero, suc, ◌+◌, ◌-◌, ◌/◌, ◌%◌, ◌<◌, ◌≤◌, Bool, true, false, IsTrue, List, [], ◌∷◌, ◌++◌, length, take, drop, append-nil, rules, refl, sym, ap, ◌∙◌, ◌^◌, if◌then◌else◌, arith}
use Rattle.std.proofs.Math.Seq.{take-append_seam, drop-append_seam}
use Rattle.std.proofs.lemmas.List.{length-append, length-drop, drop_at, drop_all}
use borrow.Rule.Slice.PartMut.{put_mid}
use Rattle.nm_geometry.specs.declared.byte_range.ByteRange.{ByteRange}
use Rattle.nm_geometry.specs.Geometry.{Geometry}
use Rattle.nm_geometry.specs.Pieces.{LiesInside, end_of, touched, piece_in, pieces_from, pieces_of}
use Rattle.nm_lanes.specs.declared.run.Run.{Run}
use Rattle.nm_lanes.specs.declared.piece_range.PieceRange.{PieceRange}
use Rattle.nm_lanes.specs.declared.run_write.RunWrite.{RunWrite}
use Rattle.nm_lanes.specs.Cuts.{cuts_for, runs_written, zero_for, zeroes_for}
use Rattle.nm_lanes.specs.Fillings.{cuts_of, filling, target_of, IsPieceRange}
use Rattle.nm_lanes.specs.Runs.{runs_of}
use Rattle.nm_lanes.specs.PieceRanges.{block_of, bytes_of, runs_in_pieces, first_of, rest_of, EndsRegion}
use Rattle.nm_lanes.proofs.CutLemmas.{bytes-all, rest-bytes, touched-fits}
use Rattle.nm_lanes.proofs.RunLemmas.{runs-part, some-runs}

-- what is put into runs, and the runs of it
abbrev pub zero_write : Run → RunWrite
zero_write run = record { run = run; bytes = zero_for run }

pub zeroes-append : (first rest : List Run) → zeroes_for (first ++ rest) ≡ zeroes_for first ++ zeroes_for rest
zeroes-append [] rest = refl
zeroes-append (r ∷ first) rest = ap (λ (ws : List RunWrite). zero_write r ∷ ws) (zeroes-append first rest)

pub zeroes-runs : (runs : List Run) → runs_written (zeroes_for runs) ≡ runs
zeroes-runs [] = refl
zeroes-runs (r ∷ runs) = ap (λ (rs : List Run). r ∷ rs) (zeroes-runs runs)

pub cuts-runs : (runs : List Run) (payload : List ℕ) → runs_written (cuts_for runs payload) ≡ runs
cuts-runs [] payload = refl
cuts-runs (r ∷ runs) payload = ap (λ (rs : List Run). r ∷ rs) (cuts-runs runs (drop r.len payload))

pub written-append : (low high : List RunWrite) → runs_written (low ++ high) ≡ runs_written low ++ runs_written high
written-append [] high = refl
written-append (w ∷ low) high = ap (λ (rs : List Run). w.run ∷ rs) (written-append low high)

pub written-long : (writes : List RunWrite) → length (runs_written writes) ≡ length writes
written-long [] = refl
written-long (w ∷ writes) = ap (λ n. suc n) (written-long writes)

-- two lists that are one, where the first parts are as long
left-part : (xs ys us vs : List Run) → xs ++ ys ≡ us ++ vs → length xs ≡ length us → xs ≡ us
left-part xs ys us vs is long = sym (take-append_seam xs ys) ∙ ap (λ (rs : List Run). take (length xs) rs) is ∙ ap (λ n. take n (us ++ vs)) long ∙ take-append_seam us vs

right-part : (xs ys us vs : List Run) → xs ++ ys ≡ us ++ vs → length xs ≡ length us → ys ≡ vs
right-part xs ys us vs is long = sym (drop-append_seam xs ys) ∙ ap (λ (rs : List Run). drop (length xs) rs) is ∙ ap (λ n. drop n (us ++ vs)) long ∙ drop-append_seam us vs

-- the runs of a piece range are those of its first blocks, and then those of the others
abbrev pub Parts : Geometry → PieceRange → ℕ → Type 0
Parts shape pieces n = runs_in_pieces shape pieces ≡ runs_in_pieces shape (first_of n pieces) ++ runs_in_pieces shape (rest_of n pieces)

parts-last : (shape : Geometry) (pieces : PieceRange) (n : ℕ) → n ≡ pieces.count → Parts shape pieces n
parts-last shape pieces n is =
    let none : pieces.count - n ≡ 0 = omega (arith, is) in
    let b = block_of pieces in
    let all : runs_in_pieces shape pieces ≡ runs_in_pieces shape (first_of n pieces) = ap (λ (k : ℕ). runs_of shape (pieces_from b k pieces.range)) (sym is) in
    let rest : runs_in_pieces shape (rest_of n pieces) ≡ [] = ap (λ (k : ℕ). runs_of shape (pieces_from (block_of (rest_of n pieces)) k pieces.range)) none in
    all ∙ sym (append-nil (runs_in_pieces shape (first_of n pieces))) ∙ ap (λ (rs : List Run). runs_in_pieces shape (first_of n pieces) ++ rs) (sym rest)

parts-region : (shape : Geometry) (pieces : PieceRange) (n : ℕ) → n ≤ pieces.count → (block_of pieces + n) % shape.region ≡ 0 → Parts shape pieces n
parts-region shape pieces n le ends =
    let b = block_of pieces in
    let all : pieces.count ≡ n + (pieces.count - n) = omega (arith, le) in
    let next : b + n ≡ block_of (rest_of n pieces) = omega arith in
    ap (λ (k : ℕ). runs_of shape (pieces_from b k pieces.range)) all ∙ runs-part shape pieces.range b n (pieces.count - n) ends
    ∙ ap (λ (k : ℕ). runs_of shape (pieces_from b n pieces.range) ++ runs_of shape (pieces_from k (pieces.count - n) pieces.range)) next

pub parts : (shape : Geometry) (pieces : PieceRange) (n : ℕ) → n ≤ pieces.count → EndsRegion shape pieces n → Parts shape pieces n
parts shape pieces n le (inl is) = parts-last shape pieces n is
parts shape pieces n le (inr ends) = parts-region shape pieces n le ends

-- zeroes or cuts
if-split : (b : Bool) (all first rest cuts low high : List RunWrite) → all ≡ first ++ rest → cuts ≡ low ++ high → (if b then all else cuts) ≡ (if b then first else low) ++ (if b then rest else high)
if-split true all first rest cuts low high a c = a
if-split false all first rest cuts low high a c = c

if-left : (b : Bool) (all first rest : List Run) (cuts low high : List RunWrite) → all ≡ first ++ rest → cuts ≡ low ++ high → length low ≡ (if b then 0 else length first) → runs_written (if b then zeroes_for all else cuts) ≡ all → runs_written (if b then zeroes_for first else low) ≡ first
if-left true all first rest cuts low high a c long is = zeroes-runs first
if-left false all first rest cuts low high a c long is =
    left-part (runs_written low) (runs_written high) first rest (sym (written-append low high) ∙ ap (λ (ws : List RunWrite). runs_written ws) (sym c) ∙ is ∙ a) (written-long low ∙ long)

if-right : (b : Bool) (all first rest : List Run) (cuts low high : List RunWrite) → all ≡ first ++ rest → cuts ≡ low ++ high → length low ≡ (if b then 0 else length first) → runs_written (if b then zeroes_for all else cuts) ≡ all → runs_written (if b then zeroes_for rest else high) ≡ rest
if-right true all first rest cuts low high a c long is = zeroes-runs rest
if-right false all first rest cuts low high a c long is =
    right-part (runs_written low) (runs_written high) first rest (sym (written-append low high) ∙ ap (λ (ws : List RunWrite). runs_written ws) (sym c) ∙ is ∙ a) (written-long low ∙ long)

pub filling-split : (shape : Geometry) (pieces : PieceRange) (n : ℕ) (cuts low high : List RunWrite) → Parts shape pieces n → cuts ≡ low ++ high → filling shape pieces cuts ≡ filling shape (first_of n pieces) low ++ filling shape (rest_of n pieces) high
filling-split shape pieces n cuts low high part is =
    let first = runs_in_pieces shape (first_of n pieces) in
    let rest = runs_in_pieces shape (rest_of n pieces) in
    if-split pieces.no_payload (zeroes_for (runs_in_pieces shape pieces)) (zeroes_for first) (zeroes_for rest) cuts low high (ap (λ (rs : List Run). zeroes_for rs) part ∙ zeroes-append first rest) is

-- the first runs of a piece range are one
pub first-piece_range : (shape : Geometry) (pieces : PieceRange) (n : ℕ) (cuts low high : List RunWrite) → n ≤ pieces.count → Parts shape pieces n → cuts ≡ low ++ high → length low ≡ cuts_of shape (first_of n pieces) → IsPieceRange shape pieces cuts → IsPieceRange shape (first_of n pieces) low
first-piece_range shape pieces n cuts low high le part is long a = record {
  end = a.end;
  inside = omega (arith, le, a.inside);
  blocks = omega (arith, le, a.blocks);
  runs = if-left pieces.no_payload (runs_in_pieces shape pieces) (runs_in_pieces shape (first_of n pieces)) (runs_in_pieces shape (rest_of n pieces)) cuts low high part is long a.runs;
}

-- so are the others
pub rest-piece_range : (shape : Geometry) (pieces : PieceRange) (n : ℕ) (cuts low high : List RunWrite) → n ≤ pieces.count → Parts shape pieces n → cuts ≡ low ++ high → length low ≡ cuts_of shape (first_of n pieces) → IsPieceRange shape pieces cuts → IsPieceRange shape (rest_of n pieces) high
rest-piece_range shape pieces n cuts low high le part is long a = record {
  end = a.end;
  inside = omega (arith, le, a.inside);
  blocks = omega (arith, le, a.blocks);
  runs = if-right pieces.no_payload (runs_in_pieces shape pieces) (runs_in_pieces shape (first_of n pieces)) (runs_in_pieces shape (rest_of n pieces)) cuts low high part is long a.runs;
}

-- as many cuts as runs are there
if-fits : (b : Bool) (all first rest : List Run) (cuts : List RunWrite) → all ≡ first ++ rest → runs_written (if b then zeroes_for all else cuts) ≡ all → (if b then 0 else length first) ≤ length cuts
if-fits true all first rest cuts a is = omega arith
if-fits false all first rest cuts a is =
    let one = written-long cuts in
    let two = ap (λ (rs : List Run). length rs) (is ∙ a) in
    let both = length-append first rest in
    omega (arith, one, two, both)

pub cuts-fit : (shape : Geometry) (pieces : PieceRange) (n : ℕ) (cuts : List RunWrite) → Parts shape pieces n → IsPieceRange shape pieces cuts → cuts_of shape (first_of n pieces) ≤ length cuts
cuts-fit shape pieces n cuts part a = if-fits pieces.no_payload (runs_in_pieces shape pieces) (runs_in_pieces shape (first_of n pieces)) (runs_in_pieces shape (rest_of n pieces)) cuts part a.runs

-- a piece range without runs has nothing to be put into it
no-writes : (writes : List RunWrite) → runs_written writes ≡ [] → writes ≡ []
no-writes [] is = refl
no-writes (w ∷ writes) is = let long = ap (λ (rs : List Run). length rs) is in absurd (omega (arith, long))

pub filling-none : (shape : Geometry) (pieces : PieceRange) (cuts : List RunWrite) → pieces.count ≡ 0 → IsPieceRange shape pieces cuts → filling shape pieces cuts ≡ []
filling-none shape pieces cuts none a = no-writes (filling shape pieces cuts) (a.runs ∙ ap (λ (k : ℕ). runs_of shape (pieces_from (block_of pieces) k pieces.range)) none)

-- a piece range that has runs has runs
pub piece_range-some : (shape : Geometry) (pieces : PieceRange) → 0 < pieces.count → 0 < length (runs_in_pieces shape pieces)
piece_range-some shape pieces some = go pieces.count some
  where
    go : (k : ℕ) → 0 < k → 0 < length (runs_of shape (pieces_from (block_of pieces) k pieces.range))
    go zero none = absurd (omega (arith, none))
    go (suc more) none = some-runs shape (piece_in (block_of pieces) pieces.range) (runs_of shape (pieces_from (block_of pieces + 1) more pieces.range))

pub filling-some : (shape : Geometry) (pieces : PieceRange) (cuts : List RunWrite) → 0 < pieces.count → IsPieceRange shape pieces cuts → 0 < length (filling shape pieces cuts)
filling-some shape pieces cuts some a =
    let long = sym (written-long (filling shape pieces cuts)) ∙ ap (λ (rs : List Run). length rs) a.runs in
    let any = piece_range-some shape pieces some in
    omega (arith, long, any)

-- the target of a piece range: of its first pieces, and of the others
if-add : (b : Bool) (all first rest : ℕ) → all ≡ first + rest → (if b then all else 0) ≡ (if b then first else 0) + (if b then rest else 0)
if-add true all first rest is = is
if-add false all first rest is = refl

pub targets-add : (pieces : PieceRange) (n : ℕ) → n ≤ pieces.count → target_of pieces ≡ target_of (first_of n pieces) + target_of (rest_of n pieces)
targets-add pieces n le = if-add pieces.is_read (bytes_of pieces pieces.count) (bytes_of pieces n) (bytes_of (rest_of n pieces) (pieces.count - n)) (rest-bytes pieces n le)

-- a piece range without pieces has none of it, and one that is not read
if-none : (b : Bool) (n : ℕ) → n ≡ 0 → (if b then n else 0) ≡ 0
if-none true n is = is
if-none false n is = refl

pub target-none : (pieces : PieceRange) → pieces.count ≡ 0 → (from all : ℕ) → from + target_of pieces ≡ all → all ≤ from
target-none pieces none from all is = let no = if-none pieces.is_read (bytes_of pieces pieces.count) (omega (arith, none)) in omega (arith, is, no)

if-read : (b : Bool) (n : ℕ) → b ≡ true → (if b then n else 0) ≡ n
if-read b n is = rw is refl

pub target-read : (pieces : PieceRange) (n : ℕ) (reads : Bool) → pieces.is_read ≡ reads → IsTrue reads → target_of (first_of n pieces) ≡ bytes_of pieces n
target-read pieces n reads same is = if-read pieces.is_read (bytes_of pieces n) (same ∙ is)

-- all runs of a range
abbrev pub all_of : ByteRange → ℕ → Bool → Bool → PieceRange
all_of range count zeroes reads = record { range = range; first = 0; count = count; no_payload = zeroes; is_read = reads }

pub all-target : (range : ByteRange) (count : ℕ) → count ≡ touched range → target_of (all_of range count true true) ≡ range.length
all-target range count is =
    let first : range.offset / 512 + 0 ≡ range.offset / 512 = omega arith in
    let all : bytes_of (all_of range count true true) count ≡ range.length = rw (first, is) (bytes-all range) in
    all

pub all-runs : (shape : Geometry) (range : ByteRange) (count : ℕ) (zeroes reads : Bool) → count ≡ touched range → runs_in_pieces shape (all_of range count zeroes reads) ≡ runs_of shape (pieces_of range)
all-runs shape range count zeroes reads is =
    let first : range.offset / 512 + 0 ≡ range.offset / 512 = omega arith in
    rw (first, is) refl

pub zeroes-piece_range : (shape : Geometry) (range : ByteRange) (count : ℕ) (reads : Bool) (cuts : List RunWrite) → LiesInside range shape → end_of range < 2 ^ 64 → count ≡ touched range → IsPieceRange shape (all_of range count true reads) cuts
zeroes-piece_range shape range count reads cuts inside end is =
    let fits = touched-fits shape range inside in
    record {
      end = end;
      inside = omega (arith, is);
      blocks = omega (arith, is, fits);
      runs = zeroes-runs (runs_in_pieces shape (all_of range count true reads));
    }

pub cuts-piece_range : (shape : Geometry) (range : ByteRange) (count : ℕ) (cuts : List RunWrite) (payload : List ℕ) → LiesInside range shape → end_of range < 2 ^ 64 → count ≡ touched range → cuts ≡ cuts_for (runs_in_pieces shape (all_of range count false false)) payload → IsPieceRange shape (all_of range count false false) cuts
cuts-piece_range shape range count cuts payload inside end is are =
    let fits = touched-fits shape range inside in
    record {
      end = end;
      inside = omega (arith, is);
      blocks = omega (arith, is, fits);
      runs = ap (λ (ws : List RunWrite). runs_written ws) are ∙ cuts-runs (runs_in_pieces shape (all_of range count false false)) payload;
    }

-- after the cuts that were taken, once what lies there was written
pub rest-written : (taken : ℕ) (cuts new : List RunWrite) → taken ≤ length cuts → length new ≡ length cuts - taken → drop taken (put_mid taken (length cuts - taken) cuts new) ≡ new
rest-written taken cuts new le is =
    let first : length (take taken cuts) ≡ taken = search (rules, le) in
    let left = length-drop taken cuts in
    let none = drop_all (length cuts - taken) (drop taken cuts) (omega (arith, left)) in
    drop_at (take taken cuts) (new ++ drop (length cuts - taken) (drop taken cuts)) taken first ∙ ap (λ (ws : List RunWrite). new ++ ws) none ∙ append-nil new
