-- Each block of a new leg is marked: each region may have been written.
use Rattle.std.proofs.Common.{◌≡◌, ◌∙◌, ℕ, zero, suc, ◌+◌, ◌/◌, ◌≤◌, Bool, true, List, ◌∷◌, replicate, refl, ap, sym, subst, arith}
use Rattle.nm_file_leg.specs.FileLeg.{written_from}
use Rattle.nm_file_leg.specs.Remembered.{Remembered, Begins}
use Rattle.nm_file_leg.proofs.RememberedLemmas.{region-inside}

module _ (memory : Remembered) (region blocks : ℕ) (some : 1 ≤ region) (begins : Begins region blocks memory) where
  pub all-marked : (n block : ℕ) → block + n ≤ blocks → written_from memory n block ≡ replicate n true
  all-marked zero block inside = refl
  all-marked (suc n) block inside =
      let some-here : 1 ≤ memory.region = subst (λ (r : ℕ). 1 ≤ r) (sym begins.region_is) some in
      let at = region-inside memory.region memory.blocks block some-here (omega (arith, inside, begins.blocks_is)) in
      ap (λ (b : Bool). b ∷ written_from memory n (block + 1)) (begins.written (block / memory.region) (omega (arith, at)))
      ∙ ap (λ (rest : List Bool). true ∷ rest) (all-marked n (block + 1) (omega (arith, inside)))
