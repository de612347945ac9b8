-- The regions of which something is not synced have no more blocks than the stripe.
use Rattle.std.proofs.Common.{◌≡◌, ℕ, zero, suc, ◌+◌, ◌-◌, ◌*◌, ◌≤◌, Bool, true, false, cond, List, ap, arith}
use Rattle.nm_regions.specs.Table.{RegionTable, length_of}
use Rattle.nm_rules.specs.Unsynced.{is_unsynced, unsynced_below}

module _ (marks : List Bool) (t : RegionTable) where
  below-most : (n : ℕ) → unsynced_below marks t n + (t.blocks - n * t.region) ≤ t.blocks
  below-most zero = omega arith
  below-most (suc n) =
      let was = below-most n in
      let spread : suc n * t.region ≡ n * t.region + t.region = grind arith in
      elim (is_unsynced marks t n) as (λ b. unsynced_below marks t n + cond b (length_of n t) 0 + (t.blocks - suc n * t.region) ≤ t.blocks) [
        | true ↦ omega (arith, was, spread)
        | false ↦ omega (arith, was, spread)
      ]

  -- so it is with one region more
  pub counted-most : (n : ℕ) → is_unsynced marks t n ≡ true → unsynced_below marks t n + length_of n t ≤ t.blocks
  counted-most n is =
      let most = below-most (suc n) in
      let step : unsynced_below marks t n + cond (is_unsynced marks t n) (length_of n t) 0 ≡ unsynced_below marks t n + length_of n t =
      ap (λ (b : Bool). unsynced_below marks t n + cond b (length_of n t) 0) is in
      omega (arith, most, step)
