-- Between the export's blocks and those of its stripes: a row of regions has one for each stripe.
use Rattle.std.proofs.Common.{◌≡◌, ℕ, zero, suc, ◌+◌, ◌-◌, ◌*◌, ◌/◌, ◌%◌, ◌<◌, ◌≤◌, ◌↔◌, min, sym, ap, ◌∙◌, arith, inl, inr, le-div_iff_mul-le, div-add-mod', mul-le-mul_right}
use Rattle.std.proofs.lemmas.Bool.{cases_order}
use Rattle.std.proofs.lemmas.Nat.{div-mul-add, mod-mul-add, mod_below, mul-le}
use Rattle.nm_geometry.specs.Geometry.{Geometry, IsGeometry, regions, regions_for, row, region_of, stripe_of, region_in_stripe, block_in_stripe}
use Rattle.nm_geometry.specs.Geometry.{export_region, export_block, stripe_blocks, stripe_regions, blocks_of_stripes}
use Rattle.nm_geometry.specs.Laws.{ComesBack, StripeComesBack}

-- a block's number in its stripe keeps its region there, and its place in the region
own-region : (shape : Geometry) (g : ℕ) → IsGeometry shape → block_in_stripe g shape / shape.region ≡ region_in_stripe g shape
own-region shape g is = div-mul-add (region_in_stripe g shape) shape.region (g % shape.region) (mod_below g shape.region is.some_region)

own-rest : (shape : Geometry) (g : ℕ) → IsGeometry shape → block_in_stripe g shape % shape.region ≡ g % shape.region
own-rest shape g is = mod-mul-add (region_in_stripe g shape) shape.region (g % shape.region) (mod_below g shape.region is.some_region)

pub there-and-back : (shape : Geometry) (g : ℕ) → IsGeometry shape → export_block (stripe_of g shape) (block_in_stripe g shape) shape ≡ g
there-and-back shape g is =
    rw (own-region shape g is, own-rest shape g is, div-add-mod' (region_of g shape) shape.stripes) (div-add-mod' g shape.region)

-- the export's region of a stripe's block, and its place in it
far-region : (shape : Geometry) (s i : ℕ) → IsGeometry shape → export_block s i shape / shape.region ≡ export_region s (i / shape.region) shape
far-region shape s i is = div-mul-add (export_region s (i / shape.region) shape) shape.region (i % shape.region) (mod_below i shape.region is.some_region)

far-rest : (shape : Geometry) (s i : ℕ) → IsGeometry shape → export_block s i shape % shape.region ≡ i % shape.region
far-rest shape s i is = mod-mul-add (export_region s (i / shape.region) shape) shape.region (i % shape.region) (mod_below i shape.region is.some_region)

pub back-and-there : (shape : Geometry) (s i : ℕ) → IsGeometry shape → s < shape.stripes → StripeComesBack shape s i
back-and-there shape s i is lt = record {
  stripe_back = rw (far-region shape s i is) (mod-mul-add (i / shape.region) shape.stripes s lt);
  block_back = rw (far-region shape s i is, far-rest shape s i is, div-mul-add (i / shape.region) shape.stripes s lt) (div-add-mod' i shape.region);
}

-- place o of region k of a stripe, against q whole rows of w blocks and a rest, where the stripe's
-- region in a row begins at b
below-rows : (k q r w b o rest : ℕ) → o < r → b + r ≤ w → rest < w → (k * r + o < q * r + min (rest - b) r) ↔ (k * w + (b + o) < q * w + rest)
below-rows k q r w b o rest short fits less = elim (cases_order k q) [
  | inl same ↦ rw same (λ h. omega (arith, h, short), λ h. omega (arith, h, short))
  | inr (inl low) ↦
      let rows : (k + 1) * w ≤ q * w = mul-le-mul_right w (let e : k + 1 ≤ q = omega (arith, low) in e) in
      let own : (k + 1) * r ≤ q * r = mul-le-mul_right r (let e : k + 1 ≤ q = omega (arith, low) in e) in
      (λ h. omega (arith, rows, short, fits), λ h. omega (arith, own, short))
  | inr (inr high) ↦
      let rows : (q + 1) * w ≤ k * w = mul-le-mul_right w (let e : q + 1 ≤ k = omega (arith, high) in e) in
      let own : (q + 1) * r ≤ k * r = mul-le-mul_right r (let e : q + 1 ≤ k = omega (arith, high) in e) in
      (λ h. absurd (omega (arith, own, h)), λ h. absurd (omega (arith, rows, h, less)))
]

-- a stripe's region lies in its row
in-row : (shape : Geometry) (s : ℕ) → s < shape.stripes → s * shape.region + shape.region ≤ row shape
in-row shape s lt =
    let h : (s + 1) * shape.region ≤ shape.stripes * shape.region = mul-le-mul_right shape.region (let e : s + 1 ≤ shape.stripes = omega (arith, lt) in e) in
    omega (arith, h)

some-row : (shape : Geometry) → IsGeometry shape → 0 < row shape
some-row shape is = let h : 1 * 1 ≤ shape.region * shape.stripes = mul-le 1 1 shape.region shape.stripes is.some_region is.some_stripes in omega (arith, h)

-- the export's blocks are whole rows and a rest
in-rows : (shape : Geometry) → shape.blocks / row shape * row shape + shape.blocks % row shape ≡ shape.blocks
in-rows shape = div-add-mod' shape.blocks (row shape)

pub lies-inside : (shape : Geometry) (s i : ℕ) → IsGeometry shape → s < shape.stripes → (i < stripe_blocks s shape) ↔ (export_block s i shape < shape.blocks)
lies-inside shape s i is lt =
    let r = shape.region in
    let k = i / r in
    let o = i % r in
    let q = shape.blocks / row shape in
    let rest = shape.blocks % row shape in
    let both = below-rows k q r (row shape) (s * r) o rest (mod_below i r is.some_region) (in-row shape s lt) (mod_below shape.blocks (row shape) (some-row shape is)) in
    let near : k * r + o ≡ i = div-add-mod' i r in
    let far : k * row shape + (s * r + o) ≡ export_block s i shape = omega arith in (
      λ h. omega (arith, both.0 (omega (arith, near, h)), far, in-rows shape),
      λ h. omega (arith, both.1 (omega (arith, far, h, in-rows shape)), near),
    )

pub comes-back : (shape : Geometry) (g : ℕ) → IsGeometry shape → g < shape.blocks → ComesBack shape g
comes-back shape g is lt =
    let there : stripe_of g shape < shape.stripes = mod_below (region_of g shape) shape.stripes is.some_stripes in
    let back = there-and-back shape g is in
    record {
      stripe = there;
      inside = (lies-inside shape (stripe_of g shape) (block_in_stripe g shape) is there).1 (omega (arith, back, lt));
      back = back;
    }

-- a region begins before the last block exactly if it is one of as many as the blocks need
some-of-region : (region blocks k : ℕ) → 0 < region → (k < regions_for region blocks) ↔ (k * region < blocks)
some-of-region region blocks k some =
    let both = le-div_iff_mul-le {k = region} {x = k + 1} {y = blocks + region - 1} some in
    (λ h. omega (arith, both.0 (omega (arith, h)), some), λ h. omega (arith, both.1 (omega (arith, h, some))))

-- the export's block of the first block of a stripe's region is the first of the export's region
far-first : (shape : Geometry) (s k : ℕ) → IsGeometry shape → export_block s (k * shape.region) shape ≡ export_region s k shape * shape.region
far-first shape s k is =
    let e : k * shape.region ≡ k * shape.region + 0 = omega arith in
    let whole : k * shape.region / shape.region ≡ k = ap (λ (n : ℕ). n / shape.region) e ∙ div-mul-add k shape.region 0 is.some_region in
    let none : k * shape.region % shape.region ≡ 0 = ap (λ (n : ℕ). n % shape.region) e ∙ mod-mul-add k shape.region 0 is.some_region in
    rw (whole, none) (omega arith)

pub regions-inside : (shape : Geometry) (s k : ℕ) → IsGeometry shape → s < shape.stripes → (k < stripe_regions s shape) ↔ (export_region s k shape < regions shape)
regions-inside shape s k is lt =
    let near = some-of-region shape.region (stripe_blocks s shape) k is.some_region in
    let far = some-of-region shape.region shape.blocks (export_region s k shape) is.some_region in
    let both = lies-inside shape s (k * shape.region) is lt in
    let first = far-first shape s k is in
    (λ h. far.1 (omega (arith, both.0 (near.0 h), first)), λ h. near.1 (both.1 (omega (arith, far.0 h, first))))

-- a block's region in its stripe is one of the stripe's
pub region-inside : (shape : Geometry) (g : ℕ) → IsGeometry shape → g < shape.blocks → region_in_stripe g shape < stripe_regions (stripe_of g shape) shape
region-inside shape g is lt =
    let there = mod_below (region_of g shape) shape.stripes is.some_stripes in
    let back : export_region (stripe_of g shape) (region_in_stripe g shape) shape ≡ region_of g shape = div-add-mod' (region_of g shape) shape.stripes in
    let first : region_of g shape * shape.region ≤ g = omega (arith, div-add-mod' g shape.region) in
    let there-is : region_of g shape < regions shape = (some-of-region shape.region shape.blocks (region_of g shape) is.some_region).1 (omega (arith, first, lt)) in
    (regions-inside shape (stripe_of g shape) (region_in_stripe g shape) is there).1 (omega (arith, back, there-is))

-- so many stripes have their regions of each whole row, and what the last row has of these
summed : (shape : Geometry) (n : ℕ) → blocks_of_stripes n shape ≡ n * (shape.blocks / row shape * shape.region) + min (shape.blocks % row shape) (n * shape.region)
summed shape zero = omega arith
summed shape (suc n) =
    let before = summed shape n in
    omega (arith, before)

pub adds-up : (shape : Geometry) → IsGeometry shape → blocks_of_stripes shape.stripes shape ≡ shape.blocks
adds-up shape is =
    omega (arith, summed shape shape.stripes, in-rows shape, mod_below shape.blocks (row shape) (some-row shape is))

-- of two places o and p in regions of one stripe, the one in the lower region comes first
pub rises : (shape : Geometry) (low high : ℕ) → IsGeometry shape → stripe_of low shape ≡ stripe_of high shape → low < high → block_in_stripe low shape < block_in_stripe high shape
rises shape low high is same lt =
    let r = shape.region in
    let s = shape.stripes in
    let k = region_in_stripe low shape in
    let l = region_in_stripe high shape in
    let low-region = div-add-mod' (region_of low shape) s in
    let high-region = div-add-mod' (region_of high shape) s in
    let low-block = div-add-mod' low r in
    let high-block = div-add-mod' high r in
    let low-rest = mod_below low r is.some_region in
    let high-rest = mod_below high r is.some_region in
    elim (cases_order k l) [
      | inl one ↦
          let regions-one : region_of low shape ≡ region_of high shape = sym low-region ∙ ap (λ (n : ℕ). n * s + stripe_of low shape) one ∙ ap (λ (n : ℕ). l * s + n) same ∙ high-region in
          let firsts : region_of low shape * r ≡ region_of high shape * r = ap (λ (n : ℕ). n * r) regions-one in
          let own : k * r ≡ l * r = ap (λ (n : ℕ). n * r) one in
          omega (arith, firsts, own, low-block, high-block, lt)
      | inr (inl below) ↦
          let own : (k + 1) * r ≤ l * r = mul-le-mul_right r (let e : k + 1 ≤ l = omega (arith, below) in e) in
          omega (arith, own, low-rest)
      | inr (inr above) ↦
          let turn : (l + 1) * s ≤ k * s = mul-le-mul_right s (let e : l + 1 ≤ k = omega (arith, above) in e) in
          let later : region_of high shape + 1 ≤ region_of low shape = omega (arith, turn, same, low-region, high-region, is.some_stripes) in
          let firsts : (region_of high shape + 1) * r ≤ region_of low shape * r = mul-le-mul_right r later in
          absurd (omega (arith, firsts, low-block, high-block, high-rest, lt))
    ]
