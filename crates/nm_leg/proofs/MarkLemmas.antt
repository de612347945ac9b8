-- Where no block is marked, none of a run is.
use Rattle.std.proofs.Common.{◌≡◌, ◌∙◌, ℕ, zero, suc, ◌-◌, false, Bool, List, take, replicate, refl, ap}
use Rattle.std.specs.List.{list_any}
use Rattle.std.proofs.lemmas.List.{drop-replicate}
use Rattle.nm_leg.specs.Leg.{is_marked_in, no_marks}

none-of : (count n : ℕ) → list_any (λ marked. marked) (take count (replicate n false)) ≡ false
none-of zero n = refl
none-of (suc count) zero = refl
none-of (suc count) (suc n) = none-of count n

pub none-marked : (at count n : ℕ) → is_marked_in at count (no_marks n) ≡ false
none-marked at count n = ap (λ (flags : List Bool). list_any (λ marked. marked) (take count flags)) (drop-replicate at n false) ∙ none-of count (n - at)
