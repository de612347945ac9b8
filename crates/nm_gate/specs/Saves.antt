-- What a save may change of what the durable superblock may say.
use Rattle.std.specs.Prelude.{◌≡◌, ◌⊎◌, ℕ, true}
use Rattle.nm_choice.specs.declared.leg_state.LegState.TheVariants.{InSync}
use Rattle.nm_rules.specs.State.{StripeState, leg_state}
use Rattle.nm_gate.specs.Durable.{Durable, is_lacking, is_listed, is_marked, is_named}

-- the leg may be called in sync, or said to lack no more than marked spans, or is in sync
abbrev pub IsCovered : {L : Type 0} → StripeState L → Durable → ℕ → Type 0
IsCovered stripe d leg =
    (is_named leg d ≡ true) ⊎ ((is_lacking leg d ≡ true) ⊎ (leg_state leg stripe ≡ InSync))

-- The bounds may become these: a leg that may be called in sync might have been before, or is in
-- sync; one that may be said to lack marked spans alone was covered; a leg in sync that was listed
-- stays so; and no span is unmarked.
pub record Resaves {L : Type 0} (stripe : StripeState L) (old new : Durable) : Type 0 where
  pub named : (leg : ℕ) → is_named leg new ≡ true
      → (is_named leg old ≡ true) ⊎ (leg_state leg stripe ≡ InSync)
  pub lacking : (leg : ℕ) → is_lacking leg new ≡ true → IsCovered stripe old leg
  pub listed : (leg : ℕ) → leg_state leg stripe ≡ InSync → is_listed leg old ≡ true
      → is_listed leg new ≡ true
  pub marked : (region : ℕ) → is_marked region old ≡ true → is_marked region new ≡ true

-- each leg in sync is surely listed
abbrev pub AllListed : {L : Type 0} → StripeState L → Durable → Type 0
AllListed stripe d = (leg : ℕ) → leg_state leg stripe ≡ InSync → is_listed leg d ≡ true
