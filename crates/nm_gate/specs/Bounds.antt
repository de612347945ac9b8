-- The superblocks that may be the durable one, and their bounds from a save's begin to its end.
use Rattle.std.specs.Prelude.{◌≡◌, ◌⊎◌, ℕ, ◌||◌, ◌&&◌, true, List, [], ◌∷◌}
use Rattle.nm_choice.specs.declared.leg_state.LegState.TheVariants.{InSync}
use Rattle.nm_leg.specs.Leg.{Leg}
use Rattle.nm_rules.specs.Reopening.{Reopening}
use Rattle.nm_rules.specs.State.{StripeState, leg_state}
use Rattle.nm_gate.specs.Durable.{Durable, is_lacking, is_listed, is_marked, is_named}
use Rattle.nm_gate.specs.Restart.{GoesBySuperblock}
use Rattle.nm_gate.specs.Saves.{IsCovered, Resaves}

-- they bound what a superblock says: what it calls in sync or lacking may be, what is surely listed
-- or marked it lists and marks
pub record Bounds (d superblock : Durable) : Type 0 where
  pub named : (leg : ℕ) → is_named leg superblock ≡ true → is_named leg d ≡ true
  pub lacking : (leg : ℕ) → is_lacking leg superblock ≡ true → is_lacking leg d ≡ true
  pub listed : (leg : ℕ) → is_listed leg d ≡ true → is_listed leg superblock ≡ true
  pub marked : (region : ℕ) → is_marked region d ≡ true → is_marked region superblock ≡ true

-- they bound each of these superblocks
abbrev pub AllBounded : Durable → List Durable → Type 0
AllBounded d [] = Unit {0}
AllBounded d (superblock ∷ more) = Bounds d superblock × AllBounded d more

-- the superblock is one of these
abbrev pub IsAmong : Durable → List Durable → Type 0
IsAmong superblock [] = ⊥
IsAmong superblock (other ∷ more) = (superblock ≡ other) ⊎ IsAmong superblock more

-- What is taken from a stripe to be saved: it calls legs in sync that are, says of covered legs
-- alone that they lack marked spans, lists each leg in sync, and marks what is marked.
pub record IsTaken {L : Type 0} (stripe : StripeState L) (d superblock : Durable)
    : Type 0 where
  pub named : (leg : ℕ) → is_named leg superblock ≡ true → leg_state leg stripe ≡ InSync
  pub lacking : (leg : ℕ) → is_lacking leg superblock ≡ true → IsCovered stripe d leg
  pub listed : (leg : ℕ) → leg_state leg stripe ≡ InSync → is_listed leg superblock ≡ true
  pub marked : (region : ℕ) → is_marked region d ≡ true → is_marked region superblock ≡ true

-- the bounds once a save of this superblock has begun
pub record IsWidened (old superblock new : Durable) : Type 0 where
  pub named : (leg : ℕ) → is_named leg new ≡ (is_named leg old || is_named leg superblock)
  pub lacking : (leg : ℕ)
      → is_lacking leg new ≡ (is_lacking leg old || is_lacking leg superblock)
  pub listed : (leg : ℕ) → is_listed leg new ≡ (is_listed leg old && is_listed leg superblock)
  pub marked : (region : ℕ) → is_marked region new ≡ is_marked region old

-- A save that begins widens the bounds, which may become so, and then bound its superblock too. One
-- that ends leaves that superblock as the only one, and the bounds may become what it says; one
-- that fails leaves them wide. And a start by any of the superblocks is a start by the bounds.
pub record SavesAreSafe {L : Type 0} (model : L → Leg) : Type 0 where
  pub begins : (stripe : StripeState L) (old superblock new : Durable) (images : List Durable)
      → AllBounded old images → IsTaken stripe old superblock → IsWidened old superblock new
      → Resaves stripe old new × AllBounded new (superblock ∷ images)
  pub ends : (stripe : StripeState L) (old superblock : Durable) (images : List Durable)
      → AllBounded old (superblock ∷ images)
      → Resaves stripe old superblock × AllBounded superblock (superblock ∷ [])
  pub starts : (stripe : StripeState L) (d superblock : Durable) (images : List Durable)
      (r : Reopening L)
      → AllBounded d images → IsAmong superblock images
      → GoesBySuperblock model stripe superblock r → GoesBySuperblock model stripe d r
