-- A history in which legs lose power: its operations act on one array all the same.
use Rattle.std.specs.Prelude.{ℕ, List, ◌∷◌, ◌++◌, IsSome}
use Rattle.nm_leg.specs.Leg.{LegType}
use Rattle.nm_rules.specs.Invariant.{Keeps}
use Rattle.nm_rules.specs.Sound.{IsSound}
use Rattle.nm_stripe.specs.Run.{ActOnOneArray, NoneHalted}
use Rattle.nm_gate.specs.declared.gated_stripe.GatedStripe.{GatedStripe}
use Rattle.nm_gate.specs.Moves.{NoneStop}
use Rattle.nm_gate.specs.Survive.{EqualOutside, Stands}
use Rattle.nm_history.specs.declared.transition.Transition.{Transition}
use Rattle.nm_history.specs.History.{LegalMoves, end_of}
use Rattle.nm_history.specs.Laws.{All, IsNoOpening, answers_of, steps_of}
use Rattle.nm_history.specs.Restarts.{LossyMoves, bounds_of, gate_moves_of, gated_of}

-- A stripe of which the gate's marks cover what a leg may lose: with a superblock it goes on behind
-- the gate, and its legs are equal outside marked spans. With none a leg comes back behind wherever
-- it has not synced.
pub record IsCovered {L : Type 0} (type : LegType L) (now : GatedStripe L) : Type 0 where
  pub keeps : Keeps type now.stripe
  pub stands : IsSome now.durable → Stands type now.stripe (bounds_of now.durable)
  pub equal : IsSome now.durable → EqualOutside type now.stripe (bounds_of now.durable)

-- the operations act on one array, and the stripe in which they end is sound, and covered too
pub record ActsCovered {L : Type 0} (type : LegType L) (from : GatedStripe L)
    (list : List (Transition L)) : Type 0 where
  pub covered : IsCovered type (end_of from list)
  pub sound : IsSound type (end_of from list).stripe
  pub acts : ActOnOneArray type.model (steps_of list) (answers_of list)
      from.stripe (end_of from list).stripe

-- So it is from each such stripe of a history on, until it stops or opens anew.
abbrev pub HistoryActsInLosses : {L : Type 0} → LegType L → Type 0
HistoryActsInLosses {L} type =
    (number : ℕ) (before list : List (Transition L)) (from : Transition L)
    → LegalMoves type number (before ++ from ∷ list) → All IsNoOpening list
    → NoneHalted (answers_of list) → IsCovered type from.to → ActsCovered type from.to list

-- And what is done there, with a superblock, is moves of which the laws on losses speak.
abbrev pub HistoryOfLosses : {L : Type 0} → LegType L → Type 0
HistoryOfLosses {L} type =
    (number : ℕ) (before list : List (Transition L)) (from : Transition L)
    → LegalMoves type number (before ++ from ∷ list) → All IsNoOpening list
    → NoneStop (gate_moves_of list) → IsSome from.to.durable → IsCovered type from.to
    → LossyMoves type (gate_moves_of list) (gated_of from.to) (gated_of (end_of from.to list))
