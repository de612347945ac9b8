-- Runs of region: the stripes that their blocks lie in.
use Rattle.std.proofs.Common.{◌≡◌, inl, inr, ℕ, ◌+◌, ◌-◌, ◌*◌, ◌/◌, ◌%◌, ◌<◌, ◌≤◌, List, min, refl, sym, ap, ◌∙◌, arith, mul-le-mul_right, div-add-mod'}
use Rattle.std.proofs.Math.Nat.{mul-mod_left, div-le_self}
use Rattle.std.proofs.lemmas.Bool.Decides.{eqb_tells}
use Rattle.std.proofs.lemmas.Nat.{div_below, le-div, mod_below}
use Rattle.nm_geometry.specs.Geometry.{Geometry, IsGeometry, stripe_of, block_in_stripe}
use Rattle.nm_lanes.specs.declared.piece_range.PieceRange.{PieceRange}
use Rattle.nm_lanes.specs.declared.run_write.RunWrite.{RunWrite}
use Rattle.nm_lanes.specs.declared.region_pieces.RegionPieces.{RegionPieces}
use Rattle.nm_lanes.specs.Fillings.{filling, IsPieceRange}
use Rattle.nm_lanes.specs.RegionPieces.{IsRegionPieces}
use Rattle.nm_lanes.specs.Cuts.{runs_written}
use Rattle.nm_lanes.specs.PieceRanges.{block_of, first_of, EndsRegion}
use Rattle.nm_lanes.specs.Writes.{writes_in, LiesIn}
use Rattle.nm_lanes.proofs.RunLemmas.{runs-within, AllWithin}
use Rattle.nm_lanes.proofs.PieceRangeLemmas.{filling-some}
use Rattle.nm_lanes.proofs.PutListLemmas.{AllLie, within-lie, all-in, lies-first}

-- the blocks of pieces of one region are the region's
pub of-region : (shape : Geometry) (region : RegionPieces) (block : ℕ) → IsGeometry shape → IsRegionPieces shape region → block_of region.pieces ≤ block → block < block_of region.pieces + region.pieces.count → block / shape.region ≡ region.number
of-region shape region block is a from upto =
    let least : region.number ≤ block / shape.region = le-div region.number block shape.region is.some_region (omega (arith, a.begins, from)) in
    let below : block / shape.region < region.number + 1 = div_below block shape.region (region.number + 1) is.some_region (omega (arith, a.upto, upto)) in
    omega (arith, least, below)

-- so they lie in its stripe
pub one-stripe : (shape : Geometry) (region : RegionPieces) (block : ℕ) → IsGeometry shape → IsRegionPieces shape region → block_of region.pieces ≤ block → block < block_of region.pieces + region.pieces.count → region.stripe ≡ stripe_of block shape
one-stripe shape region block is a from upto = sym a.stripe_is ∙ ap (λ n. n % shape.stripes) (sym (of-region shape region block is a from upto))

-- as do its runs
all-within : (shape : Geometry) (pieces : PieceRange) (cuts : List RunWrite) → IsPieceRange shape pieces cuts → AllWithin (block_of pieces) (block_of pieces + pieces.count) (runs_written (filling shape pieces cuts))
all-within shape pieces cuts a = rw a.runs (runs-within shape pieces.range (block_of pieces) pieces.count)

all-lie : (shape : Geometry) (region : RegionPieces) (cuts : List RunWrite) → IsGeometry shape → IsPieceRange shape region.pieces cuts → IsRegionPieces shape region → AllLie (λ n. n ≡ region.stripe) shape (filling shape region.pieces cuts)
all-lie shape region cuts is pieces a =
    within-lie (λ n. n ≡ region.stripe) shape (block_of region.pieces) (block_of region.pieces + region.pieces.count) (filling shape region.pieces cuts)
    (λ b from upto. sym (one-stripe shape region b is a from upto)) (all-within shape region.pieces cuts pieces)

pub region-lies : (shape : Geometry) (region : RegionPieces) (cuts : List RunWrite) → IsGeometry shape → IsPieceRange shape region.pieces cuts → IsRegionPieces shape region → LiesIn shape (filling shape region.pieces cuts) region.stripe
region-lies shape region cuts is pieces a = lies-first shape region.stripe (filling shape region.pieces cuts) (filling-some shape region.pieces cuts a.some pieces) (all-lie shape region cuts is pieces a)

-- all of these are the stripe's
pub region-one : (shape : Geometry) (region : RegionPieces) (cuts : List RunWrite) → IsGeometry shape → IsPieceRange shape region.pieces cuts → IsRegionPieces shape region → writes_in shape region.stripe (filling shape region.pieces cuts) ≡ filling shape region.pieces cuts
region-one shape region cuts is pieces a =
    all-in shape region.stripe (filling shape region.pieces cuts) (all-lie shape region cuts is pieces a)

-- and follow one another in the stripe too
pub region-follows : (shape : Geometry) (region : RegionPieces) (at : ℕ) → IsGeometry shape → IsRegionPieces shape region → at < region.pieces.count → block_in_stripe (block_of region.pieces) shape + at ≡ block_in_stripe (block_of region.pieces + at) shape
region-follows shape region at is a below =
    let first = block_of region.pieces in
    let here = of-region shape region first is a (omega arith) (omega (arith, a.some)) in
    let there = of-region shape region (first + at) is a (omega arith) (omega (arith, below)) in
    let same = here ∙ sym there in
    let rows = ap (λ n. n / shape.stripes * shape.region) same in
    let bases = ap (λ n. n * shape.region) same in
    omega (arith, rows, bases, div-add-mod' first shape.region, div-add-mod' (first + at) shape.region)

pub in_stripe-le : (shape : Geometry) (block : ℕ) → block_in_stripe block shape ≤ block
in_stripe-le shape block =
    let rows = mul-le-mul_right shape.region (div-le_self (block / shape.region) shape.stripes) in
    omega (arith, rows, div-add-mod' block shape.region)

-- the pieces up to the end of the first region
pub next-region : (shape : Geometry) (pieces first : PieceRange) (block : ℕ) → IsGeometry shape → 0 < pieces.count → block ≡ block_of pieces
    → first ≡ first_of (min ((block / shape.region + 1) * shape.region) (block + pieces.count) - block) pieces
    → IsRegionPieces shape (record { pieces = first; number = block / shape.region; stripe = block / shape.region % shape.stripes })
next-region shape pieces first block is some at first_is =
    let r = shape.region in
    let rest : block / r * r + block % r ≡ block = div-add-mod' block r in
    let below = mod_below block r is.some_region in
    let b : block_of first ≡ block = ap (λ (p : PieceRange). block_of p) first_is ∙ sym at in
    let n : first.count ≡ min ((block / r + 1) * r) (block + pieces.count) - block = ap (λ (p : PieceRange). p.count) first_is in
    record {
      some = omega (arith, n, rest, below, some);
      stripe_is = refl;
      begins = omega (arith, b, rest);
      upto = omega (arith, b, n, rest, below);
    }

-- they end where the piece range does, or a region
pub next-ends : (shape : Geometry) (pieces : PieceRange) (block count : ℕ) → IsGeometry shape → 0 < pieces.count → block ≡ block_of pieces → count ≡ min ((block / shape.region + 1) * shape.region) (block + pieces.count) - block → EndsRegion shape pieces count
next-ends shape pieces block count is some at count_is = elim (eqb_tells count pieces.count) [
  | inl all ↦ inl all.1
  | inr less ↦
      let r = shape.region in
      let rest : block / r * r + block % r ≡ block = div-add-mod' block r in
      let below = mod_below block r is.some_region in
      let end : block_of pieces + count ≡ (block / r + 1) * r = omega (arith, at, count_is, less.1, rest, below) in
      inr (ap (λ n. n % r) end ∙ mul-mod_left (block / r + 1) r)
]
