-- A stripe as it is opened on two legs that hold the same, both in sync.
use Rattle.std.proofs.Common.{◌≡◌, ℕ, zero, suc, ◌+◌, ◌<◌, List, [], ◌∷◌, length, refl, ap, sym, ◌∙◌, arith}
use Rattle.std.proofs.lemmas.Option.{same_Some}
use Rattle.nm_replay.specs.declared.block.Block.{Block}
use Rattle.nm_leg.specs.Leg.{Leg}
use Rattle.nm_leg.specs.LegCalls.{EachHas}
use Rattle.nm_choice.specs.declared.policy.Policy.{Policy}
use Rattle.nm_rules.specs.declared.at.At.{At}
use Rattle.nm_rules.specs.Array.{contents_of, laid_from, stripe_array}
use Rattle.nm_rules.specs.Opening.{opened, HoldEqual}
use Rattle.nm_stripe.specs.Opening.{NamesALeg}

-- with no write under way the array is what the master holds
laid-none : (i : ℕ) (blocks : List Block) → laid_from i [] blocks ≡ blocks
laid-none i [] = refl
laid-none i (block ∷ blocks) = ap (λ (xs : List Block). block ∷ xs) (laid-none (i + 1) blocks)

pub names-first : NamesALeg 3 2
names-first = record { leg = 0; inside = omega arith; named = refl }

module _ {L : Type 0} (model : L → Leg) (first second : L) (alike : model second ≡ model first) where
  pub have-all : (blocks : ℕ) → length (model first).contents ≡ blocks → EachHas model (first ∷ second ∷ []) blocks
  have-all blocks long zero leg at = ap (λ (l : L). length (model l).contents) (sym (same_Some first leg at)) ∙ long
  have-all blocks long (suc zero) leg at =
      ap (λ (l : L). length (model l).contents) (sym (same_Some second leg at)) ∙ (ap (λ (h : Leg). length h.contents) alike ∙ long)
  have-all blocks long (suc (suc n)) leg at = absurd (let e : ⊥ = cc in e)

  contents-alike : (i : ℕ) → i < 2 → contents_of model (first ∷ second ∷ []) i ≡ (model first).contents
  contents-alike zero below = refl
  contents-alike (suc zero) below = ap (λ (h : Leg). h.contents) alike
  contents-alike (suc (suc n)) below = absurd (let e : ⊥ = omega (arith, below) in e)

  pub hold-equal : HoldEqual model (first ∷ second ∷ []) 3
  hold-equal i j low lower _ _ = contents-alike i low ∙ sym (contents-alike j lower)

  pub opened-array : (place : At) (number : ℕ) (policy : Policy)
      → stripe_array model (opened place (first ∷ second ∷ []) 3 number policy) ≡ (model first).contents
  opened-array place number policy = laid-none 0 (model first).contents
