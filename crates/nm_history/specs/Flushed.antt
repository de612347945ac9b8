-- What was flushed stays, whatever a history does then: legs fail, lose power and come back.
use Rattle.std.specs.Prelude.{◌≡◌, ℕ, ◌<◌, true, List, ◌∷◌, ◌++◌, None, IsSome, length, slice_get}
use Rattle.nm_fanout.specs.Records.{busy_on}
use Rattle.nm_leg.specs.Leg.{LegType}
use Rattle.nm_rules.specs.Array.{contents_of, stripe_array}
use Rattle.nm_gate.specs.declared.gated_stripe.GatedStripe.{GatedStripe}
use Rattle.nm_gate.specs.Durable.{is_named}
use Rattle.nm_gate.specs.Moves.{AllLeave, IsGatedFlush}
use Rattle.nm_gate.specs.Survive.{IsCrash}
use Rattle.nm_history.specs.declared.transition.Transition.{Transition}
use Rattle.nm_history.specs.History.{LegalMoves, end_of}
use Rattle.nm_history.specs.Laws.{All, IsNoOpening}
use Rattle.nm_history.specs.LossyActs.{IsCovered}
use Rattle.nm_history.specs.Restarts.{bounds_of, gate_moves_of}

-- From this covered stripe of a history with a superblock on, on a block on which no write is under
-- way, moves flush it, and they and later ones begin no write of it, nor open or stop the stripe.
pub record Flushes {L : Type 0} (type : LegType L) (block : ℕ) (from : GatedStripe L)
    (moves later : List (Transition L)) : Type 0 where
  pub superblock : IsSome from.durable
  pub covered : IsCovered type from
  pub inside : block < from.stripe.place.blocks
  pub free : busy_on block from.stripe.records ≡ None
  pub no_opening : All IsNoOpening (moves ++ later)
  pub flush : IsGatedFlush (length from.stripe.legs) (gate_moves_of moves)
  pub leaves : AllLeave block (gate_moves_of moves)
  pub leaves_later : AllLeave block (gate_moves_of later)

-- A crash of the second stripe leaves the block as it was in the first, on each of so many legs
-- that the superblock may call in sync.
pub record FindsFlushed {L : Type 0} (type : LegType L) (count block : ℕ)
    (flushed now : GatedStripe L) : Type 0 where
  pub found : (leg : ℕ) (legs : List L) → leg < count
      → is_named leg (bounds_of now.durable) ≡ true
      → IsCrash type.model now.stripe.legs legs leg block
      → slice_get (contents_of type.model legs leg) block
      ≡ slice_get (stripe_array type.model flushed.stripe) block

-- So it is in each history, of the stripe that was flushed and the one in which the moves end.
abbrev pub HistoryKeepsFlushed : {L : Type 0} → LegType L → Type 0
HistoryKeepsFlushed {L} type =
    (number : ℕ) (before moves later : List (Transition L)) (from : Transition L) (block : ℕ)
    → LegalMoves type number (before ++ from ∷ (moves ++ later))
    → Flushes type block from.to moves later
    → FindsFlushed type (length from.to.stripe.legs) block
    (end_of from.to moves) (end_of (end_of from.to moves) later)
