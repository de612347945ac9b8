-- A call of one leg for a run: blocks that follow one another.
use Rattle.std.specs.Prelude.{◌≡◌, ℕ, Bool, IsTrue, List, length, slice_get}
use Rattle.nm_replay.specs.declared.block.Block.{Block}
use Rattle.nm_leg.specs.Leg.{CallsLeg, HoldsRun, IsOutside, Leg, LegType, set_run}
use Rattle.nm_leg.specs.LegCalls.{ChangesLeg}

-- A read of blocks from `at` on.
pub record ReadsRun (honest succeeded : Bool) (at : ℕ) (blocks : List Block)
    (old new : Leg) : Type 0 where
  pub calls : CallsLeg succeeded old new
  pub found : IsTrue honest → IsTrue succeeded → HoldsRun at blocks old.contents
  pub contents : IsTrue honest → new.contents ≡ old.contents
  pub durable : IsTrue honest → new.durable ≡ old.durable

-- A write of blocks from `at` on. A fault leaves any bytes in each of them, and what is durable
-- there is open.
pub record WritesRun (honest succeeded : Bool) (at : ℕ) (blocks : List Block)
    (old new : Leg) : Type 0 where
  pub calls : CallsLeg succeeded old new
  pub written : IsTrue honest → IsTrue succeeded → new.contents ≡ set_run at blocks old.contents
  pub others : IsTrue honest → (k : ℕ) → IsOutside at (length blocks) k
      → slice_get new.contents k ≡ slice_get old.contents k
  pub durable_others : IsTrue honest → (k : ℕ) → IsOutside at (length blocks) k
      → slice_get new.durable k ≡ slice_get old.durable k

-- a read of a run through the leg at this place
pub record ReadsRunAt {L : Type 0} (type : LegType L) (succeeded : Bool) (place at : ℕ)
    (blocks : List Block) (old new : List L) : Type 0 where
  pub before : L
  pub after : L
  pub change : ChangesLeg type.model place old new before after
  pub reads : ReadsRun type.honest succeeded at blocks (type.model before) (type.model after)

-- a write of a run through the leg at this place
pub record WritesRunAt {L : Type 0} (type : LegType L) (succeeded : Bool) (place at : ℕ)
    (blocks : List Block) (old new : List L) : Type 0 where
  pub before : L
  pub after : L
  pub change : ChangesLeg type.model place old new before after
  pub writes : WritesRun type.honest succeeded at blocks (type.model before) (type.model after)
