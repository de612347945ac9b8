-- Laws of runs.
use Rattle.std.proofs.Common.{rules, ◌≡◌, inl, inr, ℕ, zero, suc, ◌+◌, ◌-◌, ◌*◌, ◌/◌, ◌%◌, ◌<◌, ◌≤◌, ◌==◌, ◌&&◌, Bool, true, false, IsTrue, if◌then◌else◌, List, [], ◌∷◌, refl, sym, ap, ◌∙◌, arith}
use Rattle.std.proofs.lemmas.Bool.Decides.{eqb_tells}
use Rattle.std.proofs.lemmas.Bool.{and_parts}
use Rattle.std.proofs.lemmas.Nat.{div-add-mod', mod_below}
use Rattle.nm_geometry.specs.declared.byte_range.ByteRange.{ByteRange}
use Rattle.nm_geometry.specs.declared.piece.Piece.{Piece}
use Rattle.nm_geometry.specs.Geometry.{Geometry}
use Rattle.nm_geometry.specs.Pieces.{touched, piece_in, pieces_from, pieces_of}
use Rattle.nm_lanes.specs.declared.run.Run.{Run}
use Rattle.nm_lanes.specs.Runs.{in_one_run, is_whole, is_joined, before_runs, run_blocks, run_of, runs_of}
use Rattle.nm_lanes.specs.RunLaws.{AllFit, FitsStep, IsOfOneRun}
use Rattle.nm_lanes.specs.PieceRanges.{runs_in_pieces, rest_of}
use Rattle.nm_lanes.proofs.FirstRunLemmas.{first-whole}
use Rattle.nm_lanes.proofs.PieceLemmas.{touched-inside}
use Rattle.nm_lanes.proofs.RunLemmas.{agree, whole_run}
use Rattle.nm_lanes.proofs.PieceRangeLemmas.{all_of, all-runs}

-- numbers that are told to be the same are
equal : (n m : ℕ) → (n == m) ≡ true → n ≡ m
equal n m is = elim (eqb_tells n m) [
  | inl same ↦ same.1
  | inr other ↦ let no : true ≡ false = sym is ∙ other.0 in search (rules, no)
]

-- two blocks that one run may have
pub record AreOne (shape : Geometry) (one other : ℕ) : Type 0 where
  pub region : one / shape.region ≡ other / shape.region
  pub group : one % shape.region / 128 ≡ other % shape.region / 128

pub are-one : (shape : Geometry) (one other : ℕ) → in_one_run shape one other ≡ true → AreOne shape one other
are-one shape one other is =
    let both = and_parts (one / shape.region == other / shape.region) (one % shape.region / 128 == other % shape.region / 128) is in
    record { region = equal (one / shape.region) (other / shape.region) both.0; group = equal (one % shape.region / 128) (other % shape.region / 128) both.1 }

pub one-of : (shape : Geometry) (one other : ℕ) → AreOne shape one other → in_one_run shape one other ≡ true
one-of shape one other a = rw (agree (one / shape.region) (other / shape.region) a.region, agree (one % shape.region / 128) (other % shape.region / 128) a.group) refl

-- how far from one to the other
pub one-far : (shape : Geometry) (one more : ℕ) → 0 < shape.region → AreOne shape one (one + more) → (one % shape.region + suc more ≤ shape.region) × (one % shape.region % 128 + suc more ≤ 128)
one-far shape one more some a =
    let r = shape.region in
    let here = div-add-mod' one r in
    let there = div-add-mod' (one + more) r in
    let rows : one / r * r ≡ (one + more) / r * r = ap (λ n. n * r) a.region in
    let below = mod_below (one + more) r some in
    let far : (one + more) % r ≡ one % r + more = omega (arith, here, there, rows) in
    (omega (arith, far, below), omega (arith, far, a.group))

-- whole blocks that one run may have are one run
pub blocks-one : (shape : Geometry) (range : ByteRange) → 0 < shape.region → IsOfOneRun shape range → runs_of shape (pieces_of range) ≡ record { block = range.offset / 512; from = 0; len = range.length } ∷ []
blocks-one shape range some a =
    let more = range.length / 512 - 1 in
    let first = range.offset / 512 in
    let any : 0 < range.length = a.some in
    let long : 512 * suc more ≡ range.length = omega (arith, any, a.ends) in
    let full : (range.length == 0) ≡ false = elim (eqb_tells range.length 0) [ inl none ↦ absurd (omega (arith, none.1, any)) | inr other ↦ other.0 ] in
    let all : touched range ≡ suc more = rw full (omega (arith, any, a.begins, a.ends)) in
    let pieces = all_of range (suc more) true false in
    let last : first + range.length / 512 - 1 ≡ first + more = omega (arith, any, a.ends) in
    let one : in_one_run shape first (first + more) ≡ true = let told = rw last at a.one in search (rules, told) in
    let far = one-far shape first more some (are-one shape first (first + more) one) in
    let here : first + 0 ≡ first = omega arith in
    let runs = (first-whole shape pieces more (omega (arith, all)) (omega arith) (omega arith) (omega (arith, long, a.begins)) (rw here far.0) (rw here far.1) (inl refl)).runs in
    let none : suc more - suc more ≡ 0 = omega arith in
    let rest : runs_in_pieces shape (rest_of (suc more) pieces) ≡ [] = ap (λ (k : ℕ). runs_of shape (pieces_from (first + (0 + suc more)) k range)) none in
    sym (all-runs shape range (suc more) true false (sym all)) ∙ runs ∙ ap (λ (rs : List Run). whole_run (first + 0) (suc more) ∷ rs) rest
    ∙ (rw (here, long) refl)

-- regions of at most 128 blocks
pub region-one : (shape : Geometry) (one other : ℕ) → 0 < shape.region → shape.region ≤ 128 → one / shape.region ≡ other / shape.region → in_one_run shape one other ≡ true
region-one shape one other some few same =
    let a = mod_below one shape.region some in
    let b = mod_below other shape.region some in
    one-of shape one other (record { region = same; group = omega (arith, a, b, few) })

-- the first of some runs begins here
abbrev pub BeginsAt : ℕ → List Run → Type 0
BeginsAt block [] = Unit {0}
BeginsAt block (run ∷ runs) = run.block ≡ block

begins-if : (b : Bool) (block : ℕ) (x y : Run) (xs ys : List Run) → x.block ≡ block → y.block ≡ block → BeginsAt block (if b then x ∷ xs else y ∷ ys)
begins-if true block x y xs ys a b = a
begins-if false block x y xs ys a b = b

begins-before : (shape : Geometry) (piece : Piece) (runs : List Run) → BeginsAt piece.block (before_runs shape piece runs)
begins-before shape piece [] = refl
begins-before shape piece (run ∷ runs) = begins-if (is_joined shape piece run) piece.block (record { block = piece.block; from = piece.from; len = piece.len + run.len }) (run_of piece) runs (run ∷ runs) refl refl

begins : (shape : Geometry) (range : ByteRange) (block count : ℕ) → BeginsAt block (runs_of shape (pieces_from block count range))
begins shape range block zero = tt
begins shape range block (suc more) = begins-before shape (piece_in block range) (runs_of shape (pieces_from (block + 1) more range))

told : (b : Bool) → b ≡ true → IsTrue b
told b is = search (rules, is)

-- a run of one piece fits
piece-fits : (shape : Geometry) (piece : Piece) → 0 < piece.len → piece.from + piece.len ≤ 512 → FitsStep shape (run_of piece)
piece-fits shape piece some inside =
    let one : (piece.len + 511) / 512 ≡ 1 = omega (arith, some, inside) in
    let last : piece.block + (piece.len + 511) / 512 - 1 ≡ piece.block = omega (arith, one) in
    record {
      is_run = record { fits = omega (arith, one, inside); part = λ odd. one };
      some = some;
      most = omega (arith, one);
      one = rw last (told (in_one_run shape piece.block piece.block) (one-of shape piece.block piece.block (record { region = refl; group = refl })));
    }

-- so does one that was joined
joined-fits : (shape : Geometry) (piece : Piece) (run : Run) → 0 < shape.region → piece.from + piece.len ≤ 512 → run.block ≡ piece.block + 1 → piece.len ≡ 512 → run.len % 512 ≡ 0 → in_one_run shape piece.block run.block ≡ true → FitsStep shape run
    → FitsStep shape (record { block = piece.block; from = piece.from; len = piece.len + run.len })
joined-fits shape piece run some inside next whole even one fits =
    let more = run_blocks run in
    let any : 0 < run.len = fits.some in
    let count : (piece.len + run.len + 511) / 512 ≡ suc more = omega (arith, whole) in
    let long : 512 * more ≡ run.len = omega (arith, even) in
    let last : run.block + more - 1 ≡ piece.block + more = omega (arith, next, long, any) in
    let end : piece.block + (piece.len + run.len + 511) / 512 - 1 ≡ piece.block + more = omega (arith, count) in
    let rest : in_one_run shape run.block (piece.block + more) ≡ true = let is = rw last at fits.one in search (rules, is) in
    let low = are-one shape piece.block run.block one in
    let high = are-one shape run.block (piece.block + more) rest in
    let all : AreOne shape piece.block (piece.block + more) = record { region = low.region ∙ high.region; group = low.group ∙ high.group } in
    let far = one-far shape piece.block more some all in
    record {
      is_run = record { fits = omega (arith, count, long, inside, whole); part = λ odd. let yes : true ≡ false = sym (agree ((piece.len + run.len) % 512) 0 (omega (arith, whole, even))) ∙ odd in search (rules, yes) };
      some = omega (arith, any);
      most = omega (arith, count, far.1);
      one = rw end (told (in_one_run shape piece.block (piece.block + more)) (one-of shape piece.block (piece.block + more) all));
    }

fit-if : (b : Bool) (shape : Geometry) (piece : Piece) (run : Run) (runs : List Run) → is_joined shape piece run ≡ b → 0 < shape.region → 0 < piece.len → piece.from + piece.len ≤ 512 → run.block ≡ piece.block + 1 → FitsStep shape run → AllFit shape runs
    → AllFit shape (if b then record { block = piece.block; from = piece.from; len = piece.len + run.len } ∷ runs else run_of piece ∷ run ∷ runs)
fit-if true shape piece run runs is some any inside next fits more =
    let two = and_parts (piece.len == 512 && is_whole run) (in_one_run shape piece.block run.block) is in
    let both = and_parts (piece.len == 512) (is_whole run) two.0 in
    (joined-fits shape piece run some inside next (equal piece.len 512 both.0) (equal (run.len % 512) 0 both.1) two.1 fits, more)
fit-if false shape piece run runs is some any inside next fits more = (piece-fits shape piece any inside, (fits, more))

fit-before : (shape : Geometry) (piece : Piece) (runs : List Run) → 0 < shape.region → 0 < piece.len → piece.from + piece.len ≤ 512 → BeginsAt (piece.block + 1) runs → AllFit shape runs → AllFit shape (before_runs shape piece runs)
fit-before shape piece [] some any inside next fits = (piece-fits shape piece any inside, tt)
fit-before shape piece (run ∷ runs) some any inside next fits = fit-if (is_joined shape piece run) shape piece run runs refl some any inside next fits.0 fits.1

fit-from : (shape : Geometry) (range : ByteRange) (number count : ℕ) → 0 < shape.region → number + count ≤ touched range → AllFit shape (runs_of shape (pieces_from (range.offset / 512 + number) count range))
fit-from shape range number zero some le = tt
fit-from shape range number (suc more) some le =
    let block = range.offset / 512 + number in
    let met = touched-inside range number (omega (arith, le)) in
    let next : range.offset / 512 + (number + 1) ≡ block + 1 = omega arith in
    let rest : AllFit shape (runs_of shape (pieces_from (block + 1) more range)) = rw next at (fit-from shape range (number + 1) more some (omega (arith, le))) in
    fit-before shape (piece_in block range) (runs_of shape (pieces_from (block + 1) more range)) some (omega (arith, met.some, met.goes_on)) (omega arith) (begins shape range (block + 1) more) rest

pub range-fits : (shape : Geometry) (range : ByteRange) → 0 < shape.region → AllFit shape (runs_of shape (pieces_of range))
range-fits shape range some = let here : range.offset / 512 + 0 ≡ range.offset / 512 = omega arith in rw here at (fit-from shape range 0 (touched range) some (omega arith))
