-- Which legs are in neither of two sets.
use Rattle.std.proofs.Common.{◌≡◌, ℕ, ◌<◌, ◌&&◌, ◌||◌, Bool, true, false, not, List, replicate, refl, ap, ◌∙◌}
use Rattle.nm_geometry.specs.LegSets.{has, legs_where}
use Rattle.nm_geometry.proofs.LegSetLemmas.{has-where}

neither : (a e n o : Bool) → a ≡ true → e ≡ n || o → a && not e ≡ not n && not o
neither false e n o all either = absurd (cc)
neither true e true o all either = ap not either
neither true e false o all either = ap not either

-- the legs of all that are in neither of two sets
pub in-neither : (named out all either others : List Bool) → all ≡ replicate 8 true → either ≡ legs_where (λ leg. has leg named || has leg out)
    → others ≡ legs_where (λ leg. has leg all && not (has leg either))
    → (leg : ℕ) → leg < 8 → has leg others ≡ not (has leg named) && not (has leg out)
in-neither named out all either others all_is either_is is leg below =
    ap (has leg) is
    ∙ has-where (λ k. has k all && not (has k either)) leg below
    ∙ neither (has leg all) (has leg either) (has leg named) (has leg out)
    (ap (has leg) all_is ∙ has-where (λ _. true) leg below)
    (ap (has leg) either_is ∙ has-where (λ k. has k named || has k out) leg below)
