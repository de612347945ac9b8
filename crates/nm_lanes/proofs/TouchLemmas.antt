-- The stripes that some bytes touch are so many in turn, from their first region's on.
use Rattle.std.proofs.Common.{◌≡◌, ℕ, ◌+◌, ◌-◌, ◌*◌, ◌/◌, ◌%◌, ◌<◌, ◌≤◌, inl, inr, min, sym, ap, ◌∙◌, arith, div-add-mod', mul-le-mul_right}
use Rattle.std.proofs.Math.Nat.{add-mul-mod_self_right, div-mul-le_self}
use Rattle.std.proofs.lemmas.Bool.{cases_lt}
use Rattle.std.proofs.lemmas.Nat.{le-div, mod_below, div-mul-add}
use Rattle.nm_geometry.specs.declared.byte_range.ByteRange.{ByteRange}
use Rattle.nm_geometry.specs.Geometry.{Geometry}
use Rattle.nm_geometry.specs.Pieces.{touched}
use Rattle.nm_lanes.specs.Flushes.{Touches}
use Rattle.nm_lanes.specs.Syncs.{IsAround}

-- the regions that a range touches first and last, and how many stripes it touches
pub record TouchesSo (shape : Geometry) (range : ByteRange) (first last count : ℕ) : Type 0 where
  pub region : 0 < shape.region
  pub stripes : 0 < shape.stripes
  pub some : 0 < touched range
  pub first_is : first ≡ (range.offset / 512) / shape.region
  pub last_is : last ≡ (range.offset / 512 + (touched range - 1)) / shape.region
  pub count_is : count ≡ min (last - first + 1) shape.stripes

region-rises : (a b k : ℕ) → 0 < k → a ≤ b → a / k ≤ b / k
region-rises a b k some le = le-div (a / k) b k some (omega (arith, div-mul-le_self a k, le))

around-mod : (first d s : ℕ) → (first + d % s) % s ≡ (first + d) % s
around-mod first d s =
    let e : first + d ≡ first + d % s + d / s * s = omega (arith, div-add-mod' d s) in
    sym (ap (λ n. n % s) e ∙ add-mul-mod_self_right (first + d % s) (d / s) s)

pub touches-around : (shape : Geometry) (range : ByteRange) (first last count stripe : ℕ) → TouchesSo shape range first last count → Touches shape range stripe → IsAround shape first count stripe
touches-around shape range first last count stripe t a =
    let q = range.offset / 512 in
    let r = (q + a.number) / shape.region in
    let low : q / shape.region ≤ r = region-rises q (q + a.number) shape.region t.region (omega arith) in
    let high : r ≤ (q + (touched range - 1)) / shape.region = region-rises (q + a.number) (q + (touched range - 1)) shape.region t.region (omega (arith, a.inside)) in
    let from : first + (r - first) ≡ r = omega (arith, low, t.first_is) in
    let below = mod_below (r - first) shape.stripes t.stripes in
    record {
      number = (r - first) % shape.stripes;
      inside = omega (arith, below, div-add-mod' (r - first) shape.stripes, t.count_is, t.last_is, t.first_is, low, high);
      stripe_is = around-mod first (r - first) shape.stripes ∙ ap (λ n. n % shape.stripes) from ∙ a.stripe_is;
    }

-- a block of a region that is touched
touches-at : (shape : Geometry) (range : ByteRange) (number r stripe : ℕ) → number < touched range → (range.offset / 512 + number) / shape.region ≡ r → r % shape.stripes ≡ stripe → Touches shape range stripe
touches-at shape range number r stripe inside is same = record { number = number; inside = inside; stripe_is = ap (λ n. n % shape.stripes) is ∙ same }

pub around-touches : (shape : Geometry) (range : ByteRange) (first last count stripe : ℕ) → TouchesSo shape range first last count → IsAround shape first count stripe → Touches shape range stripe
around-touches shape range first last count stripe t a =
    let q = range.offset / 512 in
    let lb = q + (touched range - 1) in
    let r = first + a.number in
    let rises : q / shape.region ≤ lb / shape.region = region-rises q lb shape.region t.region (omega arith) in
    let upto : r ≤ lb / shape.region = omega (arith, a.inside, t.count_is, t.last_is, t.first_is, rises) in
    let times : r * shape.region ≤ lb / shape.region * shape.region = mul-le-mul_right shape.region upto in
    let fits : r * shape.region ≤ lb = omega (arith, times, div-mul-le_self lb shape.region) in
    elim (cases_lt (r * shape.region) q) [
      | inl before ↦
          let below : r ≤ q / shape.region = le-div r q shape.region t.region (omega (arith, before)) in
          let e : q + 0 ≡ q = omega arith in
          let is : (q + 0) / shape.region ≡ r = ap (λ n. n / shape.region) e ∙ omega (arith, below, t.first_is) in
          touches-at shape range 0 r stripe t.some is a.stripe_is
      | inr above ↦
          let e : q + (r * shape.region - q) ≡ r * shape.region + 0 = omega (arith, above) in
          let is : (q + (r * shape.region - q)) / shape.region ≡ r = ap (λ n. n / shape.region) e ∙ div-mul-add r shape.region 0 t.region in
          touches-at shape range (r * shape.region - q) r stripe (omega (arith, fits, above, t.some)) is a.stripe_is
    ]
