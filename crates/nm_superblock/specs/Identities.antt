-- The identities of legs: which are known, and which are the same.
use Rattle.std.specs.Prelude.{◌≡◌, ◌≢◌, ◌⊎◌, ◌<◌, ◌+◌, ◌*◌, ℕ, slice_index}
use Rattle.nm_superblock.specs.declared.leg_identities.LegIdentities.{LegIdentities}

-- a number of a leg's identity
abbrev pub word_of : (leg number : ℕ) → LegIdentities → ℕ
word_of leg number all = slice_index all.words (4 * leg + number)

-- the leg's identity is known: one of its four numbers is not 0
abbrev pub IsKnown : (leg : ℕ) → LegIdentities → Type 0
IsKnown leg all =
    (word_of leg 0 all ≢ 0) ⊎ ((word_of leg 1 all ≢ 0)
    ⊎ ((word_of leg 2 all ≢ 0) ⊎ (word_of leg 3 all ≢ 0)))

-- a leg of the one has the identity that a leg of the other has
pub record IsSameIdentity (leg : ℕ) (one : LegIdentities) (other_leg : ℕ) (other : LegIdentities)
    : Type 0 where
  pub first : word_of leg 0 one ≡ word_of other_leg 0 other
  pub second : word_of leg 1 one ≡ word_of other_leg 1 other
  pub third : word_of leg 2 one ≡ word_of other_leg 2 other
  pub fourth : word_of leg 3 one ≡ word_of other_leg 3 other

-- the leg gets the identity that a leg has in the others, and no other leg another one
pub record Puts (leg other_leg : ℕ) (others old new : LegIdentities) : Type 0 where
  pub here : IsSameIdentity leg new other_leg others
  pub rest : (other : ℕ) → other < 8 → other ≢ leg → IsSameIdentity other new other old
