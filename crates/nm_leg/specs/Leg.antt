-- What a leg holds, and what one call does to it.
use Rattle.std.specs.Prelude.{◌≡◌, ◌≢◌, ◌⊎◌, ℕ, zero, suc, ◌+◌, ◌*◌, ◌/◌, ◌%◌, ◌^◌, ◌<◌, ◌≤◌}
use Rattle.std.specs.Prelude.{Bool, false, IsTrue, IsFalse, if◌then◌else◌, Some, slice_get}
use Rattle.std.specs.Prelude.{List, [], ◌∷◌, length, replicate, slice_set, take, drop}
use Rattle.std.specs.List.{list_any}
use Rattle.nm_replay.specs.declared.block.Block.{Block}
use Rattle.nm_replay.specs.declared.block.TheConstants.{BLOCK_BYTES}
use Rattle.nm_replay.specs.Array.{Array}

-- An array of blocks as reads find it, the same array as a loss of power would leave it, for each
-- block whether it was written since the leg was last synced, as far as the leg knows, and how many
-- calls have failed, modulo 2^64.
pub record Leg : Type 0 where
  pub contents : Array
  pub durable : Array
  pub unsynced : List Bool
  pub faults : ℕ

-- whether one of so many blocks from `at` on is marked
abbrev pub is_marked_in : ℕ → ℕ → List Bool → Bool
is_marked_in at count marks = list_any (λ marked. marked) (take count (drop at marks))

-- no block of so many is marked
abbrev pub no_marks : ℕ → List Bool
no_marks blocks = replicate blocks false

-- each block that is not marked is durable as reads find it
abbrev pub IsDurableElsewhere : Leg → Type 0
IsDurableElsewhere leg =
    (k : ℕ) → slice_get leg.unsynced k ≡ Some false
    → slice_get leg.durable k ≡ slice_get leg.contents k

-- A type of legs: what one of them holds, and whether all of them are honest.
pub record LegType (L : Type 0) : Type 0 where
  pub model : L → Leg
  pub honest : Bool

-- the type of legs with these two members
abbrev pub leg_type : {L : Type 0} → (L → Leg) → Bool → LegType L
leg_type model honest = record { model = model; honest = honest }

-- the block of these bytes
abbrev pub block_of : List ℕ → Block
block_of bytes = record { 0 = bytes }

-- an array of so many blocks, with one byte in every place
abbrev pub filled_array : ℕ → ℕ → Array
filled_array blocks byte = replicate blocks (block_of (replicate BLOCK_BYTES byte))

-- a leg of so many blocks of one byte, all of it durable, of which no call has failed
abbrev pub filled_leg : ℕ → ℕ → Leg
filled_leg blocks byte =
    let all = filled_array blocks byte in
    record { contents = all; durable = all; unsynced = no_marks blocks; faults = 0 }

-- a leg of so many zero blocks, all of it durable, of which no call has failed
abbrev pub zeroed_leg : ℕ → Leg
zeroed_leg blocks = filled_leg blocks 0

-- Any call: no array changes its length, success leaves the count of faults, and a fault adds one
-- to it, modulo 2^64. So a fault is answered only where the count moved.
pub record CallsLeg (succeeded : Bool) (old new : Leg) : Type 0 where
  pub contents_length : length new.contents ≡ length old.contents
  pub durable_length : length new.durable ≡ length old.durable
  pub faults : new.faults ≡ (if succeeded then old.faults else (old.faults + 1) % 2 ^ 64)
  pub fault_moves : IsFalse succeeded → new.faults ≢ old.faults

-- how many whole blocks these bytes are
abbrev pub blocks_in : List ℕ → ℕ
blocks_in bytes = length bytes / 512

-- the bytes, cut into so many blocks
abbrev pub cut_into : ℕ → List ℕ → List Block
cut_into zero bytes = []
cut_into (suc n) bytes = block_of (take 512 bytes) ∷ cut_into n (drop 512 bytes)

-- the blocks that these bytes are
abbrev pub blocks_of : List ℕ → List Block
blocks_of bytes = cut_into (blocks_in bytes) bytes

-- the bytes are a run: whole blocks, at least one, that lie inside so many from `at` on
pub record IsRun (at blocks : ℕ) (bytes : List ℕ) : Type 0 where
  pub some : 0 < length bytes
  pub whole : length bytes ≡ 512 * blocks_in bytes
  pub inside : at + blocks_in bytes ≤ blocks

-- the array with these blocks from `at` on
abbrev pub set_run : ℕ → List Block → Array → Array
set_run at [] array = array
set_run at (block ∷ blocks) array = set_run (at + 1) blocks (slice_set array at block)

-- the array has these blocks from `at` on
abbrev pub HoldsRun : ℕ → List Block → Array → Type 0
HoldsRun at [] array = Unit {0}
HoldsRun at (block ∷ blocks) array =
    (slice_get array at ≡ Some block) × HoldsRun (at + 1) blocks array

-- the block is none of so many from `at` on
abbrev pub IsOutside : ℕ → ℕ → ℕ → Type 0
IsOutside at count k = (k < at) ⊎ (at + count ≤ k)

-- A read of a run from `at` on into a target. A fault leaves any bytes in the target.
pub record ReadsLeg (honest succeeded : Bool) (at : ℕ) (old new : Leg) (filled : List ℕ)
    : Type 0 where
  pub calls : CallsLeg succeeded old new
  pub found : IsTrue honest → IsTrue succeeded
      → HoldsRun at (blocks_of filled) old.contents
  pub contents : IsTrue honest → new.contents ≡ old.contents
  pub durable : IsTrue honest → new.durable ≡ old.durable

-- A write of a run from `at` on. A fault leaves any bytes in each of its blocks, and what is
-- durable there is open.
pub record WritesLeg (honest succeeded : Bool) (at : ℕ) (bytes : List ℕ)
    (old new : Leg) : Type 0 where
  pub calls : CallsLeg succeeded old new
  pub written : IsTrue honest → IsTrue succeeded
      → new.contents ≡ set_run at (blocks_of bytes) old.contents
  pub others : IsTrue honest → (k : ℕ) → IsOutside at (blocks_in bytes) k
      → slice_get new.contents k ≡ slice_get old.contents k
  pub durable_others : IsTrue honest → (k : ℕ) → IsOutside at (blocks_in bytes) k
      → slice_get new.durable k ≡ slice_get old.durable k

-- A sync. A fault leaves what is durable wherever it equals the contents.
pub record SyncsLeg (honest succeeded : Bool) (old new : Leg) : Type 0 where
  pub calls : CallsLeg succeeded old new
  pub durable : IsTrue honest → IsTrue succeeded → new.durable ≡ old.contents
  pub contents : IsTrue honest → new.contents ≡ old.contents
  pub durable_kept : IsTrue honest → (k : ℕ)
      → slice_get old.durable k ≡ slice_get old.contents k
      → slice_get new.durable k ≡ slice_get old.durable k
