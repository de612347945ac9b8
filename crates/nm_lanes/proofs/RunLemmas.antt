-- Runs of pieces: joined of whole blocks, and cut where regions and groups of 128 blocks end.
use Rattle.std.proofs.Common.{◌≡◌, inl, inr, ℕ, zero, suc, ◌+◌, ◌*◌, ◌/◌, ◌%◌, ◌<◌, ◌≤◌, ◌==◌, ◌&&◌, Bool, true, false, if◌then◌else◌, List, [], ◌∷◌, ◌++◌, length, refl, sym, ap, ◌∙◌, arith}
use Rattle.std.proofs.Math.Bool.{and-false}
use Rattle.std.proofs.lemmas.Bool.Decides.{eqb_tells}
use Rattle.std.proofs.lemmas.Nat.{div-add-mod', div-mul-add, mod-mul-add}
use Rattle.std.proofs.Math.Nat.{mul-mod_right}
use Rattle.nm_geometry.specs.declared.byte_range.ByteRange.{ByteRange}
use Rattle.nm_geometry.specs.declared.piece.Piece.{Piece}
use Rattle.nm_geometry.specs.Geometry.{Geometry}
use Rattle.nm_geometry.specs.Pieces.{piece_in, pieces_from}
use Rattle.nm_lanes.specs.declared.run.Run.{Run}
use Rattle.nm_lanes.proofs.PieceLemmas.{pieces-add}
use Rattle.nm_lanes.specs.Runs.{is_whole, in_one_run, is_joined, run_of, before_runs, runs_of}

-- a piece of a whole block, and a run of whole blocks
abbrev pub whole_piece : ℕ → Piece
whole_piece block = record { block = block; from = 0; len = 512 }

abbrev pub whole_run : ℕ → ℕ → Run
whole_run block count = record { block = block; from = 0; len = 512 * count }

-- numbers that differ, and conditions of which one does not hold
pub differ : (n m : ℕ) → (n ≡ m → ⊥) → (n == m) ≡ false
differ n m not = elim (eqb_tells n m) [
  | inl same ↦ absurd (not same.1)
  | inr other ↦ other.0
]

pub agree : (n m : ℕ) → n ≡ m → (n == m) ≡ true
agree n m is = elim (eqb_tells n m) [
  | inl same ↦ same.0
  | inr other ↦ absurd (other.1 is)
]

all-hold : (a b c : Bool) → a ≡ true → b ≡ true → c ≡ true → (a && b && c) ≡ true
all-hold a b c x y z = rw (x, y, z) refl

first-fails : (a b c : Bool) → a ≡ false → (a && b && c) ≡ false
first-fails a b c x = rw x refl

second-fails : (a b c : Bool) → b ≡ false → (a && b && c) ≡ false
second-fails true b c x = rw x refl
second-fails false b c x = refl

third-fails : (a b c : Bool) → c ≡ false → (a && b && c) ≡ false
third-fails a b c x = rw x (and-false (a && b))

-- a piece is not joined to the first of these runs
abbrev pub IsApart : Geometry → Piece → List Run → Type 0
IsApart shape piece [] = Unit {0}
IsApart shape piece (run ∷ runs) = is_joined shape piece run ≡ false

pub before-apart : (shape : Geometry) (piece : Piece) (runs : List Run) → IsApart shape piece runs → before_runs shape piece runs ≡ run_of piece ∷ runs
before-apart shape piece [] a = refl
before-apart shape piece (run ∷ runs) a = rw a refl

-- a piece that is no whole block stands alone
pub part-apart : (shape : Geometry) (piece : Piece) (runs : List Run) → (piece.len ≡ 512 → ⊥) → IsApart shape piece runs
part-apart shape piece [] part = tt
part-apart shape piece (run ∷ runs) part = first-fails (piece.len == 512) (is_whole run) (in_one_run shape piece.block run.block) (differ piece.len 512 part)

-- pieces in front of runs
abbrev pub in_front : Geometry → List Piece → List Run → List Run
in_front shape [] runs = runs
in_front shape (piece ∷ pieces) runs = before_runs shape piece (in_front shape pieces runs)

pub runs-front : (shape : Geometry) (xs ys : List Piece) → runs_of shape (xs ++ ys) ≡ in_front shape xs (runs_of shape ys)
runs-front shape [] ys = refl
runs-front shape (x ∷ xs) ys = ap (λ (rs : List Run). before_runs shape x rs) (runs-front shape xs ys)

-- a whole block joins whole blocks
whole-joins : (shape : Geometry) (block count : ℕ) (runs : List Run) → in_one_run shape block (block + 1) ≡ true → before_runs shape (whole_piece block) (whole_run (block + 1) count ∷ runs) ≡ whole_run block (suc count) ∷ runs
whole-joins shape block count runs one =
    let whole : is_whole (whole_run (block + 1) count) ≡ true = agree (512 * count % 512) 0 (mul-mod_right 512 count) in
    let joined : is_joined shape (whole_piece block) (whole_run (block + 1) count) ≡ true = all-hold (512 == 512) (is_whole (whole_run (block + 1) count)) (in_one_run shape block (block + 1)) refl whole one in
    let long : 512 + 512 * count ≡ 512 * suc count = omega arith in
    rw joined (ap (λ (n : ℕ). record { block = block; from = 0; len = n } ∷ runs) long)

-- whole blocks that one run may have are one run
pub whole-front : (shape : Geometry) (range : ByteRange) (block more : ℕ) (runs : List Run) → ((i : ℕ) → i < suc more → piece_in (block + i) range ≡ whole_piece (block + i))
    → ((i : ℕ) → i < more → in_one_run shape (block + i) (block + i + 1) ≡ true) → IsApart shape (whole_piece (block + more)) runs
    → in_front shape (pieces_from block (suc more) range) runs ≡ whole_run block (suc more) ∷ runs
whole-front shape range block zero runs wholes ones apart =
    let here : block + 0 ≡ block = omega arith in
    let is : piece_in block range ≡ whole_piece block = rw here at (wholes 0 (omega arith)) in
    ap (λ (p : Piece). before_runs shape p runs) is ∙ before-apart shape (whole_piece block) runs (rw here at apart)
whole-front shape range block (suc more) runs wholes ones apart =
    let here : block + 0 ≡ block = omega arith in
    let is : piece_in block range ≡ whole_piece block = rw here at (wholes 0 (omega arith)) in
    let one : in_one_run shape block (block + 1) ≡ true = rw here at (ones 0 (omega arith)) in
    let last : block + suc more ≡ block + 1 + more = omega arith in
    let rest = whole-front shape range (block + 1) more runs
    (λ i below. let next : block + suc i ≡ block + 1 + i = omega arith in rw next at (wholes (suc i) (omega (arith, below))))
    (λ i below. let next : block + suc i ≡ block + 1 + i = omega arith in rw next at (ones (suc i) (omega (arith, below))))
    (rw last at apart) in
    ap (λ (p : Piece). before_runs shape p (in_front shape (pieces_from (block + 1) (suc more) range) runs)) is ∙ ap (λ (rs : List Run). before_runs shape (whole_piece block) rs) rest
    ∙ whole-joins shape block (suc more) runs one

-- the first of the runs that a piece begins
head-block : (b : Bool) (shape : Geometry) (last piece : Piece) (run : Run) (runs : List Run) → in_one_run shape last.block piece.block ≡ false
    → IsApart shape last (if b then record { block = piece.block; from = piece.from; len = piece.len + run.len } ∷ runs else run_of piece ∷ run ∷ runs)
head-block true shape last piece run runs cut = third-fails (last.len == 512) (is_whole (record { block = piece.block; from = piece.from; len = piece.len + run.len })) (in_one_run shape last.block piece.block) cut
head-block false shape last piece run runs cut = third-fails (last.len == 512) (is_whole (run_of piece)) (in_one_run shape last.block piece.block) cut

-- a piece is not joined to what begins where no run goes on
pub cut-apart : (shape : Geometry) (last piece : Piece) (runs : List Run) → in_one_run shape last.block piece.block ≡ false → IsApart shape last (before_runs shape piece runs)
cut-apart shape last piece [] cut = third-fails (last.len == 512) (is_whole (run_of piece)) (in_one_run shape last.block piece.block) cut
cut-apart shape last piece (run ∷ runs) cut = head-block (is_joined shape piece run) shape last piece run runs cut

-- nor to a part of a block
pub before-part : (shape : Geometry) (last piece : Piece) (runs : List Run) → 0 < piece.len → piece.len < 512 → IsApart shape last (before_runs shape piece runs)
before-part shape last piece runs some part =
    let alone = before-apart shape piece runs (part-apart shape piece runs (λ is. omega (arith, is, part))) in
    let rest : piece.len % 512 ≡ piece.len = omega (arith, part) in
    let no : is_whole (run_of piece) ≡ false = differ (piece.len % 512) 0 (λ is. omega (arith, is, rest, some)) in
    rw alone (second-fails (last.len == 512) (is_whole (run_of piece)) (in_one_run shape last.block piece.block) no)

-- blocks that one run may have
pub one-run : (shape : Geometry) (block i : ℕ) → block % shape.region + i + 1 < shape.region → block % shape.region % 128 + i + 1 < 128 → in_one_run shape (block + i) (block + i + 1) ≡ true
one-run shape block i below few =
    let r = shape.region in
    let inside = block % r in
    let region = block / r in
    let whole = div-add-mod' block r in
    let here : block + i ≡ region * r + (inside + i) = omega (arith, whole) in
    let next : block + i + 1 ≡ region * r + (inside + i + 1) = omega (arith, whole) in
    let low : inside + i < r = omega (arith, below) in
    let a : (block + i) / r ≡ region = ap (λ n. n / r) here ∙ div-mul-add region r (inside + i) low in
    let b : (block + i + 1) / r ≡ region = ap (λ n. n / r) next ∙ div-mul-add region r (inside + i + 1) below in
    let c : (block + i) % r ≡ inside + i = ap (λ n. n % r) here ∙ mod-mul-add region r (inside + i) low in
    let d : (block + i + 1) % r ≡ inside + i + 1 = ap (λ n. n % r) next ∙ mod-mul-add region r (inside + i + 1) below in
    let groups : (inside + i) / 128 ≡ (inside + i + 1) / 128 = omega (arith, few) in
    let first = agree ((block + i) / r) ((block + i + 1) / r) (a ∙ sym b) in
    let second = agree ((block + i) % r / 128) ((block + i + 1) % r / 128) (ap (λ n. n / 128) c ∙ groups ∙ ap (λ n. n / 128) (sym d)) in
    rw (first, second) refl

-- no run goes on where a region begins
pub region-cut : (shape : Geometry) (block : ℕ) → (block + 1) % shape.region ≡ 0 → in_one_run shape block (block + 1) ≡ false
region-cut shape block begins =
    let r = shape.region in
    let here = div-add-mod' block r in
    let next = div-add-mod' (block + 1) r in
    let first = differ (block / r) ((block + 1) / r) (λ is. let e : block / r * r ≡ (block + 1) / r * r = ap (λ n. n * r) is in omega (arith, e, here, next, begins)) in
    rw first refl

-- nor where a group of 128 blocks begins
pub group-cut : (shape : Geometry) (block : ℕ) → block % shape.region + 1 < shape.region → (block % shape.region + 1) % 128 ≡ 0 → in_one_run shape block (block + 1) ≡ false
group-cut shape block below begins =
    let r = shape.region in
    let inside = block % r in
    let next : block + 1 ≡ block / r * r + (inside + 1) = omega (arith, div-add-mod' block r) in
    let d : (block + 1) % r ≡ inside + 1 = ap (λ n. n % r) next ∙ mod-mul-add (block / r) r (inside + 1) below in
    let second = differ (inside / 128) ((block + 1) % r / 128) (λ is. let e : inside / 128 ≡ (inside + 1) / 128 = is ∙ ap (λ n. n / 128) d in omega (arith, e, begins)) in
    rw second (and-false (block / r == (block + 1) / r))

-- runs of pieces, and then others
if-append : (b : Bool) (x y : Run) (xs ys more : List Run) → (if b then x ∷ (xs ++ more) else y ∷ (ys ++ more)) ≡ (if b then x ∷ xs else y ∷ ys) ++ more
if-append true x y xs ys more = refl
if-append false x y xs ys more = refl

before-append : (shape : Geometry) (piece : Piece) (runs more : List Run) → 0 < length runs → before_runs shape piece (runs ++ more) ≡ before_runs shape piece runs ++ more
before-append shape piece [] more some = absurd (omega (arith, some))
before-append shape piece (run ∷ runs) more some = if-append (is_joined shape piece run) (record { block = piece.block; from = piece.from; len = piece.len + run.len }) (run_of piece) runs (run ∷ runs) more

if-some : (b : Bool) (x y : Run) (xs ys : List Run) → 0 < length (if b then x ∷ xs else y ∷ ys)
if-some true x y xs ys = omega arith
if-some false x y xs ys = omega arith

pub some-runs : (shape : Geometry) (piece : Piece) (runs : List Run) → 0 < length (before_runs shape piece runs)
some-runs shape piece [] = omega arith
some-runs shape piece (run ∷ runs) = if-some (is_joined shape piece run) (record { block = piece.block; from = piece.from; len = piece.len + run.len }) (run_of piece) runs (run ∷ runs)

-- the last of the pieces is not joined to the first of the runs
abbrev pub LastApart : Geometry → List Piece → List Run → Type 0
LastApart shape [] runs = Unit {0}
LastApart shape (piece ∷ []) runs = IsApart shape piece runs
LastApart shape (piece ∷ (next ∷ pieces)) runs = LastApart shape (next ∷ pieces) runs

front-append : (shape : Geometry) (pieces : List Piece) (runs : List Run) → LastApart shape pieces runs → in_front shape pieces runs ≡ runs_of shape pieces ++ runs
front-append shape [] runs a = refl
front-append shape (piece ∷ []) runs a = before-apart shape piece runs a
front-append shape (piece ∷ (next ∷ pieces)) runs a =
    ap (λ (rs : List Run). before_runs shape piece rs) (front-append shape (next ∷ pieces) runs a) ∙ before-append shape piece (runs_of shape (next ∷ pieces)) runs (some-runs shape next (runs_of shape pieces))

pub runs-append : (shape : Geometry) (xs ys : List Piece) → LastApart shape xs (runs_of shape ys) → runs_of shape (xs ++ ys) ≡ runs_of shape xs ++ runs_of shape ys
runs-append shape xs ys a = runs-front shape xs ys ∙ front-append shape xs (runs_of shape ys) a

-- the last piece of a range's blocks
pub last-apart : (shape : Geometry) (range : ByteRange) (block more : ℕ) (runs : List Run) → IsApart shape (piece_in (block + more) range) runs → LastApart shape (pieces_from block (suc more) range) runs
last-apart shape range block zero runs a = let here : block + 0 ≡ block = omega arith in rw here at a
last-apart shape range block (suc more) runs a = let next : block + suc more ≡ block + 1 + more = omega arith in last-apart shape range (block + 1) more runs (rw next at a)

-- no run goes on where a region begins
region-apart : (shape : Geometry) (range : ByteRange) (block more after : ℕ) → (block + suc more) % shape.region ≡ 0 → IsApart shape (piece_in (block + more) range) (runs_of shape (pieces_from (block + suc more) after range))
region-apart shape range block more zero ends = tt
region-apart shape range block more (suc after) ends =
    let next : block + suc more ≡ block + more + 1 = omega arith in
    cut-apart shape (piece_in (block + more) range) (piece_in (block + suc more) range) (runs_of shape (pieces_from (block + suc more + 1) after range)) (rw next (region-cut shape (block + more) (rw next at ends)))

pub runs-part : (shape : Geometry) (range : ByteRange) (block before after : ℕ) → (block + before) % shape.region ≡ 0
    → runs_of shape (pieces_from block (before + after) range) ≡ runs_of shape (pieces_from block before range) ++ runs_of shape (pieces_from (block + before) after range)
runs-part shape range block zero after ends = let here : block + 0 ≡ block = omega arith in let all : 0 + after ≡ after = omega arith in rw (here, all) refl
runs-part shape range block (suc more) after ends =
    ap (λ (ps : List Piece). runs_of shape ps) (pieces-add block (suc more) after range)
    ∙ runs-append shape (pieces_from block (suc more) range) (pieces_from (block + suc more) after range) (last-apart shape range block more (runs_of shape (pieces_from (block + suc more) after range)) (region-apart shape range block more after ends))

-- each run begins in one of these blocks
abbrev pub AllWithin : ℕ → ℕ → List Run → Type 0
AllWithin low high [] = Unit {0}
AllWithin low high (run ∷ runs) = (low ≤ run.block) × (run.block < high) × AllWithin low high runs

pub within-more : (low less high more : ℕ) (runs : List Run) → less ≤ low → high ≤ more → AllWithin low high runs → AllWithin less more runs
within-more low less high more [] a b w = tt
within-more low less high more (run ∷ runs) a b w = (omega (arith, a, w.0), omega (arith, b, w.1), within-more low less high more runs a b w.2)

within-if : (b : Bool) (low high : ℕ) (x y : Run) (xs ys : List Run) → AllWithin low high (x ∷ xs) → AllWithin low high (y ∷ ys) → AllWithin low high (if b then x ∷ xs else y ∷ ys)
within-if true low high x y xs ys a b = a
within-if false low high x y xs ys a b = b

within-before : (shape : Geometry) (piece : Piece) (high : ℕ) (runs : List Run) → piece.block < high → AllWithin piece.block high runs → AllWithin piece.block high (before_runs shape piece runs)
within-before shape piece high [] below a = (omega arith, below, tt)
within-before shape piece high (run ∷ runs) below a =
    within-if (is_joined shape piece run) piece.block high (record { block = piece.block; from = piece.from; len = piece.len + run.len }) (run_of piece) runs (run ∷ runs) (omega arith, below, a.2) (omega arith, below, a)

pub runs-within : (shape : Geometry) (range : ByteRange) (block count : ℕ) → AllWithin block (block + count) (runs_of shape (pieces_from block count range))
runs-within shape range block zero = tt
runs-within shape range block (suc more) =
    within-before shape (piece_in block range) (block + suc more) (runs_of shape (pieces_from (block + 1) more range)) (omega arith)
    (within-more (block + 1) block (block + 1 + more) (block + suc more) (runs_of shape (pieces_from (block + 1) more range)) (omega arith) (omega arith) (runs-within shape range (block + 1) more))
