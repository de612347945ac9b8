-- A call of one leg for one block: what the steps on single blocks are about.
use Rattle.std.specs.Prelude.{◌≡◌, ◌≢◌, ℕ, Bool, IsTrue, List, Some, slice_get, slice_set}
use Rattle.nm_replay.specs.declared.block.Block.{Block}
use Rattle.nm_leg.specs.Leg.{CallsLeg, Leg, LegType, block_of}
use Rattle.nm_leg.specs.LegCalls.{ChangesLeg}

-- A read of the block at `at`.
pub record ReadsBlock (honest succeeded : Bool) (at : ℕ) (old new : Leg) (filled : Block)
    : Type 0 where
  pub calls : CallsLeg succeeded old new
  pub found : IsTrue honest → IsTrue succeeded → slice_get old.contents at ≡ Some filled
  pub contents : IsTrue honest → new.contents ≡ old.contents
  pub durable : IsTrue honest → new.durable ≡ old.durable

-- A write of the block at `at`. A fault leaves any bytes there, and what is durable there is open.
pub record WritesBlock (honest succeeded : Bool) (at : ℕ) (bytes : List ℕ)
    (old new : Leg) : Type 0 where
  pub calls : CallsLeg succeeded old new
  pub written : IsTrue honest → IsTrue succeeded
      → new.contents ≡ slice_set old.contents at (block_of bytes)
  pub others : IsTrue honest → (k : ℕ) → k ≢ at
      → slice_get new.contents k ≡ slice_get old.contents k
  pub durable_others : IsTrue honest → (k : ℕ) → k ≢ at
      → slice_get new.durable k ≡ slice_get old.durable k

-- a read of a block through the leg at this place
pub record ReadsBlockAt {L : Type 0} (type : LegType L) (succeeded : Bool) (place at : ℕ)
    (old new : List L) (filled : Block) : Type 0 where
  pub before : L
  pub after : L
  pub change : ChangesLeg type.model place old new before after
  pub reads : ReadsBlock type.honest succeeded at (type.model before) (type.model after) filled

-- a write of a block through the leg at this place
pub record WritesBlockAt {L : Type 0} (type : LegType L) (succeeded : Bool) (place at : ℕ)
    (bytes : List ℕ) (old new : List L) : Type 0 where
  pub before : L
  pub after : L
  pub change : ChangesLeg type.model place old new before after
  pub writes : WritesBlock type.honest succeeded at bytes (type.model before) (type.model after)
