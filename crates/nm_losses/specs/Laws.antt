-- What losses of power cost a stripe that legs come back to by returns: nothing.
use Rattle.std.specs.Prelude.{◌≡◌, ℕ, ◌<◌, false, List, None, length, slice_get}
use Rattle.nm_fanout.specs.Records.{busy_on}
use Rattle.nm_leg.specs.Leg.{Leg, LegType}
use Rattle.nm_rules.specs.Array.{stripe_array}
use Rattle.nm_rules.specs.Flushed.{DurableAt}
use Rattle.nm_rules.specs.Invariant.{Keeps}
use Rattle.nm_rules.specs.Sound.{LegsInSync}
use Rattle.nm_rules.specs.State.{StripeState}
use Rattle.nm_stripe.specs.Flush.{IsFlush, NoneBegins}
use Rattle.nm_stripe.specs.Run.{ActOnOneArray, NoneHalted}
use Rattle.nm_losses.specs.Moves.{LossyRuns, Move, answers_of, steps_of}

-- a stripe that runs, and keeps what every stripe keeps
pub record Stands {L : Type 0} (type : LegType L) (stripe : StripeState L) : Type 0 where
  pub keeps : Keeps type stripe
  pub runs : stripe.stopped ≡ false

-- The stripe stands, the operations of the steps done acted on one array, which no return changed,
-- and each leg in sync holds it at each block that has no write under way.
pub record KeepsTheArray {L : Type 0} (type : LegType L) (moves : List (Move L))
    (old new : StripeState L) : Type 0 where
  pub stands : Stands type new
  pub acts : ActOnOneArray type.model (steps_of moves) (answers_of moves) old new
  pub in_sync : LegsInSync type.model new

-- So it is after any moves.
abbrev pub LossesKeepTheArray : {L : Type 0} → LegType L → Type 0
LossesKeepTheArray {L} type =
    (moves : List (Move L)) (old new : StripeState L)
    → Stands type old → LossyRuns type moves old new → NoneHalted (answers_of moves)
    → KeepsTheArray type moves old new

-- moves that begin no write of this block, and stop nothing
pub record LeaveBlock {L : Type 0} (type : LegType L) (block : ℕ) (moves : List (Move L))
    (old new : StripeState L) : Type 0 where
  pub runs : LossyRuns type moves old new
  pub goes : NoneHalted (answers_of moves)
  pub leaves : NoneBegins block (steps_of moves) (answers_of moves)

-- the block is as it was, and each leg in sync holds it so, durably
pub record OutlivesAt {L : Type 0} (model : L → Leg) (block : ℕ) (old new : StripeState L)
    : Type 0 where
  pub array : slice_get (stripe_array model new) block ≡ slice_get (stripe_array model old) block
  pub durable : (leg : ℕ) → DurableAt model new leg block

-- After a flush, and any moves since, a block on which no write was under way before the flush, and
-- none began, is as the flush left it, and durable on each leg in sync.
abbrev pub FlushedOutlivesLosses : {L : Type 0} → LegType L → Type 0
FlushedOutlivesLosses {L} type =
    (moves later : List (Move L)) (old mid new : StripeState L) (block : ℕ)
    → Stands type old → block < old.place.blocks → busy_on block old.records ≡ None
    → LeaveBlock type block moves old mid
    → IsFlush (length old.legs) (steps_of moves) (answers_of moves)
    → LeaveBlock type block later mid new
    → OutlivesAt type.model block mid new
