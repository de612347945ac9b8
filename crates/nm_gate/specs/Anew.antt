-- A stripe that had stopped and is opened anew from one of its legs, while the superblock stays.
use Rattle.std.specs.Prelude.{◌≡◌, ◌⊎◌, ℕ, ◌<◌, ◌^◌, ◌/◌, true, false, List, length, slice_get}
use Rattle.nm_choice.specs.declared.policy.Policy.{Policy}
use Rattle.nm_leg.specs.Leg.{Leg, LegType}
use Rattle.nm_leg.specs.LegCalls.{EachHas}
use Rattle.nm_regions.specs.Sound.{AreSizes}
use Rattle.nm_resync.specs.Chunk.{IsChunkSize}
use Rattle.nm_rules.specs.declared.at.At.{At}
use Rattle.nm_rules.specs.Array.{contents_of}
use Rattle.nm_rules.specs.Flushed.{durable_of}
use Rattle.nm_rules.specs.Opening.{opened}
use Rattle.nm_gate.specs.Durable.{Durable, is_lacking, is_listed, is_marked, is_named}
use Rattle.nm_gate.specs.Saves.{AllListed}
use Rattle.nm_gate.specs.Survive.{EqualOutside, NamedHold, Stands}

-- It opens at its place on legs as long as that, under one of them; and the superblock may call no
-- other leg in sync.
pub record OpensAnew {L : Type 0} (model : L → Leg) (place : At) (legs : List L) (master : ℕ)
    (d : Durable) : Type 0 where
  pub sizes : AreSizes place.blocks place.region (length legs)
  pub chunk : IsChunkSize place.chunk
  pub lengths : EachHas model legs place.blocks
  pub inside : master < length legs
  pub alone : (leg : ℕ) → is_named leg d ≡ true → leg ≡ master

-- outside marked spans the master, and each leg that the superblock may say to lack no more, hold
-- what the master holds, durably
abbrev pub AreEqualOutside : {L : Type 0} → (L → Leg) → At → List L → (master : ℕ) → Durable
    → Type 0
AreEqualOutside model place legs master d =
    (leg block : ℕ) → block < place.blocks → is_marked (block / place.region) d ≡ false
    → (leg ≡ master) ⊎ (is_lacking leg d ≡ true)
    → (slice_get (contents_of model legs leg) block
    ≡ slice_get (contents_of model legs master) block)
    × (slice_get (durable_of model legs leg) block
    ≡ slice_get (contents_of model legs leg) block)

-- Then what the promises on crashes rest on holds of the stripe that is opened: it goes on behind
-- the gate, each leg that may be called in sync holds its array, each leg in sync is listed if the
-- master is, and outside marked spans the legs are equal if they are so now.
pub record GoesOnAnew {L : Type 0} (type : LegType L) (place : At) (legs : List L) (d : Durable)
    (master first : ℕ) (policy : Policy) : Type 0 where
  pub stands : Stands type (opened place legs (2 ^ master) first policy) d
  pub named : NamedHold type (opened place legs (2 ^ master) first policy) d
  pub listed : is_listed master d ≡ true
      → AllListed (opened place legs (2 ^ master) first policy) d
  pub equal : AreEqualOutside type.model place legs master d
      → EqualOutside type (opened place legs (2 ^ master) first policy) d

-- so it is of each stripe that opens so
abbrev pub ReopensAreRight : {L : Type 0} → LegType L → Type 0
ReopensAreRight {L} type =
    (place : At) (legs : List L) (d : Durable) (master first : ℕ) (policy : Policy)
    → OpensAnew type.model place legs master d
    → GoesOnAnew type place legs d master first policy
