-- What the array of a stripe is as it opens.
use Rattle.std.specs.Prelude.{◌≡◌, ℕ, List}
use Rattle.nm_choice.specs.declared.policy.Policy.{Policy}
use Rattle.nm_leg.specs.Leg.{Leg}
use Rattle.nm_rules.specs.declared.at.At.{At}
use Rattle.nm_rules.specs.Array.{contents_of, stripe_array}
use Rattle.nm_rules.specs.Opening.{opened}

-- the array of a stripe as it is opened is what its master holds
abbrev pub OpensWithTheMaster : {L : Type 0} → (L → Leg) → Type 0
OpensWithTheMaster {L} model =
    (place : At) (legs : List L) (in_sync first : ℕ) (policy : Policy)
    → stripe_array model (opened place legs in_sync first policy)
    ≡ contents_of model legs (opened place legs in_sync first policy).master
