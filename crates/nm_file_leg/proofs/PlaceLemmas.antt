-- Where blocks of a stripe lie: two have no byte in common, and those of a region follow one another.
use Rattle.std.proofs.Common.{◌≡◌, ◌≢◌, ℕ, ◌+◌, ◌*◌, ◌/◌, ◌%◌, ◌<◌, ◌≤◌, ap, sym, ◌∙◌, arith, inl, inr}
use Rattle.std.proofs.lemmas.Bool.{cases_lt}
use Rattle.std.proofs.lemmas.Nat.{div-add-mod', div-mul-add, mod-mul-add, mul-le}
use Rattle.std.proofs.Math.Nat.{le-mul_of_pos_right}
use Rattle.nm_geometry.specs.Geometry.{Geometry, IsGeometry, row, export_region, export_block, block_in_stripe, stripe_blocks}
use Rattle.nm_file_leg.specs.Medium.{Apart}
use Rattle.nm_file_leg.specs.Blocks.{first_byte}
use Rattle.nm_geometry.proofs.Places.{back-and-there}

-- a stripe has at most the blocks of the export
pub blocks-most : (s : ℕ) (p : Geometry) → IsGeometry p → stripe_blocks s p ≤ p.blocks
blocks-most s p bounds =
    let q = p.blocks / row p in
    let wide : p.region ≤ row p = le-mul_of_pos_right p.region bounds.some_stripes in
    let rows : q * p.region ≤ q * row p = mul-le q p.region q (row p) (omega arith) wide in
    omega (arith, rows, div-add-mod' p.blocks (row p))

-- two blocks that are not one have no byte in common
apart-if-other : (x y : ℕ) → y ≢ x → Apart (512 * x) 512 (512 * y) 512
apart-if-other x y other =
    elim (cases_lt y x) as (λ _. Apart (512 * x) 512 (512 * y) 512) [
      | inl below ↦ inl (omega (arith, below))
      | inr above ↦ inr (omega (arith, above, other))
    ]

-- two blocks of the stripe have no byte in common: each is one block of the export, and comes back
pub blocks-apart : (s : ℕ) (p : Geometry) (at k : ℕ) → IsGeometry p → s < p.stripes → k ≢ at
    → Apart (first_byte s p at) 512 (first_byte s p k) 512
blocks-apart s p at k bounds own other =
    let back = λ (i : ℕ). (back-and-there p s i bounds own).block_back in
    apart-if-other (export_block s at p) (export_block s k p) (λ (same : export_block s k p ≡ export_block s at p).
    other (sym (back k) ∙ ap (λ (e : ℕ). block_in_stripe e p) same ∙ back at))

-- the blocks of a region follow one another in the export
block-follows : (s : ℕ) (p : Geometry) (at i : ℕ) → at % p.region + i < p.region → export_block s (at + i) p ≡ export_block s at p + i
block-follows s p at i short =
    let whole : at / p.region * p.region + at % p.region ≡ at = div-add-mod' at p.region in
    let e : at + i ≡ at / p.region * p.region + (at % p.region + i) = omega (arith, whole) in
    let d : (at + i) / p.region ≡ at / p.region = ap (λ (n : ℕ). n / p.region) e ∙ div-mul-add (at / p.region) p.region (at % p.region + i) short in
    let m : (at + i) % p.region ≡ at % p.region + i = ap (λ (n : ℕ). n % p.region) e ∙ mod-mul-add (at / p.region) p.region (at % p.region + i) short in
    ap (λ (n : ℕ). export_region s n p * p.region + (at + i) % p.region) d
    ∙ ap (λ (n : ℕ). export_region s (at / p.region) p * p.region + n) m
    ∙ groups (export_region s (at / p.region) p * p.region) (at % p.region) i
  where
    groups : (a b c : ℕ) → a + (b + c) ≡ a + b + c
    groups a b c = omega arith

-- and so do their bytes
pub place-follows : (s : ℕ) (p : Geometry) (at i : ℕ) → at % p.region + i < p.region → first_byte s p (at + i) ≡ first_byte s p at + 512 * i
place-follows s p at i short = ap (λ (n : ℕ). 512 * n) (block-follows s p at i short) ∙ spread (export_block s at p) i
  where
    spread : (x i : ℕ) → 512 * (x + i) ≡ 512 * x + 512 * i
    spread x i = omega arith
