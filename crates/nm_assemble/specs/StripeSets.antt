-- Sets of legs as they are built, and the sets of stripes.
use Rattle.std.specs.Prelude.{◌≡◌, ◌≢◌, ◌<◌, ◌↔◌, ℕ, Bool, List, IsTrue, length}
use Rattle.nm_geometry.specs.LegSets.{AreBitsOf, has}
use Rattle.nm_superblock.specs.declared.leg_sets.LegSets.{LegSets}
use Rattle.nm_superblock.specs.Spans.{candidates_of, in_sync_of, partial_of}

-- of the first legs, the set has these
abbrev pub HasThese : (count : ℕ) → (legs : ℕ → Type 0) → List Bool → Type 0
HasThese count legs set = (leg : ℕ) → leg < count → IsTrue (has leg set) ↔ legs leg

-- the sets of a stripe are as before
pub record KeepsSets (stripe : ℕ) (old new : LegSets) : Type 0 where
  pub in_sync : in_sync_of stripe new ≡ in_sync_of stripe old
  pub candidates : candidates_of stripe new ≡ candidates_of stripe old
  pub partial : partial_of stripe new ≡ partial_of stripe old

-- a stripe gets these sets, and no other stripe other ones
pub record Puts (stripe : ℕ) (a b c : List Bool) (old new : LegSets) : Type 0 where
  pub size : length new.bytes ≡ 256
  pub in_sync : AreBitsOf a (in_sync_of stripe new)
  pub candidates : AreBitsOf b (candidates_of stripe new)
  pub partial : AreBitsOf c (partial_of stripe new)
  pub others : (other : ℕ) → other ≢ stripe → KeepsSets other old new
