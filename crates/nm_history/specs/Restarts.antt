-- What a history is to the laws of nm_gate and nm_losses, which speak of crashes and flushes.
use Rattle.std.specs.Prelude.{ℕ, List, [], ◌∷◌, ◌++◌, Option, None, Some, IsSome, IsTrue, false}
use Rattle.nm_leg.specs.Leg.{LegType}
use Rattle.nm_gate.specs.declared.gated_stripe.GatedStripe.{GatedStripe}
use Rattle.nm_gate.specs.Durable.{Durable}
use Rattle.nm_gate.specs.Moves as gate
use Rattle.nm_gate.specs.Moves.{AllLeave, Gated, GatedRuns, NoneStop, SomeSyncs}
use Rattle.nm_gate.specs.Survive.{Stands}
use Rattle.nm_losses.specs.Gated.{GatedMove, LossyGatedRuns}
use Rattle.nm_losses.specs.Moves as losses
use Rattle.nm_losses.specs.Moves.{LossyRuns}
use Rattle.nm_losses.specs.Survive.{gate_moves_of as among}
use Rattle.nm_history.specs.declared.transition.Move.{Move}
use Rattle.nm_history.specs.declared.transition.Move.TheVariants.{Does, Looks, Saves, Clears}
use Rattle.nm_history.specs.declared.transition.Transition.{Transition}
use Rattle.nm_history.specs.History.{LegalMoves, end_of}
use Rattle.nm_history.specs.Laws.{All, IsNoLoss, IsNoOpening}

-- what the durable superblock may say, where there is one
abbrev pub bounds_of : Option Durable → Durable
bounds_of None = record {
  named = [];
  listed = [];
  lacking = [];
  marked = [];
  span = 1;
  broken = false;
}
bounds_of (Some d) = d

-- the stripe with that
abbrev pub gated_of : {L : Type 0} → GatedStripe L → Gated L
gated_of g = record { stripe = g.stripe; durable = bounds_of g.durable }

-- the gate's move that a move is which left these bounds, if it is one
abbrev pub gate_moves_in : {L : Type 0} → Move L → Durable → List (gate.Move L)
gate_moves_in (Does step answer) d = gate.Does step answer ∷ []
gate_moves_in (Looks leg block found) d = gate.Looks leg block found ∷ []
gate_moves_in Saves d = gate.Saves d ∷ []
gate_moves_in Clears d = gate.Clears d ∷ []
gate_moves_in move d = []

-- the gate's moves among the transitions
abbrev pub gate_moves_of : {L : Type 0} → List (Transition L) → List (gate.Move L)
gate_moves_of [] = []
gate_moves_of (t ∷ list) = gate_moves_in t.made (bounds_of t.to.durable) ++ gate_moves_of list

-- the move of the stripe alone that a move is, if it is one
abbrev pub stripe_moves_in : {L : Type 0} → Move L → List (losses.Move L)
stripe_moves_in (Does step answer) = losses.Does step answer ∷ []
stripe_moves_in (Looks leg block found) = losses.Looks leg block found ∷ []
stripe_moves_in move = []

-- the moves of the stripe alone among the transitions
abbrev pub stripe_moves_of : {L : Type 0} → List (Transition L) → List (losses.Move L)
stripe_moves_of [] = []
stripe_moves_of (t ∷ list) = stripe_moves_in t.made ++ stripe_moves_of list

-- Moves of which nm_losses' laws speak, that lead from one to the other: of these moves of the gate
-- all but the returns of legs that recover, so that they begin writes of no other block, and sync
-- the same legs.
pub record LossyMoves {L : Type 0} (type : LegType L) (moves : List (gate.Move L))
    (old new : Gated L) : Type 0 where
  pub lossy : List (GatedMove L)
  pub runs : LossyGatedRuns type lossy old new
  pub leaves : (block : ℕ) → AllLeave block moves → AllLeave block (among lossy)
  pub syncs : (leg : ℕ) → SomeSyncs leg moves → SomeSyncs leg (among lossy)

-- Without losses what is done from a stripe of the history on, until it opens anew, is moves of a
-- stripe behind the gate, where there is a superblock, the stripe goes on behind the gate, and none
-- stops it; and always moves of the stripe alone.
pub record RestartsFrom {L : Type 0} (type : LegType L) (from : Transition L)
    (list : List (Transition L)) : Type 0 where
  pub gated : IsTrue type.honest → IsSome from.to.durable
      → Stands type from.to.stripe (bounds_of from.to.durable) → NoneStop (gate_moves_of list)
      → GatedRuns type (gate_moves_of list) (gated_of from.to) (gated_of (end_of from.to list))
  pub alone : LossyRuns type (stripe_moves_of list)
      from.to.stripe (end_of from.to list).stripe

-- So it is of each history.
abbrev pub HistoryRestarts : {L : Type 0} → LegType L → Type 0
HistoryRestarts {L} type =
    (number : ℕ) (before list : List (Transition L)) (from : Transition L)
    → LegalMoves type number (before ++ from ∷ list) → All IsNoLoss (before ++ from ∷ list)
    → All IsNoOpening list → RestartsFrom type from list
