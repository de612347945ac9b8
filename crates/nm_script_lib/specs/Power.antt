-- What a loss of its power leaves of a leg, and how many blocks it changes.
use Rattle.std.specs.Prelude.{◌≡◌, ℕ, zero, suc, ◌+◌, ◌==◌, Bool, true, if◌then◌else◌, []}
use Rattle.std.specs.Prelude.{length, replicate, slice_index_or}
use Rattle.std.specs.Cmp.Lexicographic.{pointwise}
use Rattle.nm_leg.specs.Leg.{Leg, block_of}
use Rattle.nm_replay.specs.declared.block.Block.{Block}

-- the leg, with a mark on each block
abbrev pub unsure : Leg → Leg
unsure leg = record leg { unsynced = replicate (length leg.contents) true }

-- What a loss of power leaves of a leg: it holds what was durable, and its marks stay.
pub record IsLeft (leg part : Leg) : Type 0 where
  pub contents : part.contents ≡ leg.durable
  pub durable : part.durable ≡ leg.durable
  pub unsynced : part.unsynced ≡ leg.unsynced

-- two blocks have the same bytes
abbrev pub same_bytes : Block → Block → Bool
same_bytes one other = pointwise (λ a b. a == b) one.0 other.0

-- a loss of power leaves the leg's block at this place as it is
abbrev pub stays_at : Leg → ℕ → Bool
stays_at leg place =
    same_bytes (slice_index_or leg.contents place (block_of []))
    (slice_index_or leg.durable place (block_of []))

-- how many of the first so many blocks a loss of power would change
abbrev pub changed_below : Leg → ℕ → ℕ
changed_below leg zero = 0
changed_below leg (suc place) =
    changed_below leg place + (if stays_at leg place then 0 else 1)

-- how many blocks a loss of power would change
abbrev pub changed : Leg → ℕ
changed leg = changed_below leg (length leg.contents)
