-- What follows of a history: it goes on by any move from where it leads, and its operations act on
-- one array from each opening on.
use Rattle.std.specs.Prelude.{◌≡◌, ℕ, true, List, [], ◌∷◌, ◌++◌}
use Rattle.nm_leg.specs.Leg.{LegType}
use Rattle.nm_rules.specs.Invariant.{Keeps}
use Rattle.nm_rules.specs.Sound.{IsSound}
use Rattle.nm_rules.specs.State.{is_out, leg_state}
use Rattle.nm_stripe.specs.Run.{ActOnOneArray, NoneHalted}
use Rattle.nm_stripe.specs.declared.answer.Answer.{Answer}
use Rattle.nm_stripe.specs.declared.step.Step.{Step}
use Rattle.nm_gate.specs.declared.gated_stripe.GatedStripe.{GatedStripe}
use Rattle.nm_history.specs.declared.transition.Move.{Move}
use Rattle.nm_history.specs.declared.transition.Move.TheVariants.{Does, Loses, Opens}
use Rattle.nm_history.specs.declared.transition.Transition.{Transition}
use Rattle.nm_history.specs.History.{LeadsTo, LegalMoves, end_of}
use Rattle.nm_history.specs.Lost.{none_lost}
use Rattle.nm_history.specs.Moves.{MoveOf}

-- the step that a move is, if it is one
abbrev pub steps_in : {L : Type 0} → Move L → List (Step L)
steps_in (Does step answer) = step ∷ []
steps_in move = []

-- and its answer
abbrev pub answers_in : {L : Type 0} → Move L → List (Answer L)
answers_in (Does step answer) = answer ∷ []
answers_in move = []

-- the steps among the transitions
abbrev pub steps_of : {L : Type 0} → List (Transition L) → List (Step L)
steps_of [] = []
steps_of (t ∷ list) = steps_in t.made ++ steps_of list

-- and their answers
abbrev pub answers_of : {L : Type 0} → List (Transition L) → List (Answer L)
answers_of [] = []
answers_of (t ∷ list) = answers_in t.made ++ answers_of list

-- no leg loses power by the move
abbrev pub IsNoLoss : {L : Type 0} → Move L → Type 0
IsNoLoss (Loses leg) = ⊥
IsNoLoss move = Unit {0}

-- the move does not open the stripe
abbrev pub IsNoOpening : {L : Type 0} → Move L → Type 0
IsNoOpening Opens = ⊥
IsNoOpening move = Unit {0}

-- it is so of the move of each transition
abbrev pub All : {L : Type 0} → (Move L → Type 0) → List (Transition L) → Type 0
All is [] = Unit {0}
All is (t ∷ list) = is t.made × All is list

-- A history begins with an opening, goes on by each move from where it leads, and leads to one
-- stripe: the one of its number, which keeps what every stripe does where no leg lost power.
pub record HistoriesGoOn {L : Type 0} (type : LegType L) : Type 0 where
  pub begins : (number : ℕ) (first : Transition L)
      → first.made ≡ Opens → Keeps type first.to.stripe
      → first.to.stripe.place.stripe ≡ number → LeadsTo type number (first ∷ []) first.to
  pub goes_on : (number : ℕ) (list : List (Transition L)) (now : GatedStripe L) (t : Transition L)
      → LeadsTo type number list now → MoveOf type none_lost t.made now t.to
      → LeadsTo type number (list ++ t ∷ []) t.to
  pub one_end : (number : ℕ) (list : List (Transition L)) (now other : GatedStripe L)
      → LeadsTo type number list now → LeadsTo type number list other → now ≡ other
  pub number_is : (number : ℕ) (list : List (Transition L)) (now : GatedStripe L)
      → LeadsTo type number list now → now.stripe.place.stripe ≡ number
  pub keeps : (number : ℕ) (list : List (Transition L)) (now : GatedStripe L)
      → LeadsTo type number list now → All IsNoLoss list → Keeps type now.stripe

-- a loss of this leg's power: nothing shows of it
abbrev pub loss : {L : Type 0} → ℕ → GatedStripe L → Transition L
loss leg now = record { made = Loses leg; to = now }

-- And a loss of a leg's power may be put in wherever the leg is out.
abbrev pub LossesMayStand : {L : Type 0} → LegType L → Type 0
LossesMayStand {L} type =
    (number : ℕ) (before later : List (Transition L)) (t : Transition L) (leg : ℕ)
    → LegalMoves type number (before ++ t ∷ later) → is_out (leg_state leg t.to.stripe) ≡ true
    → LegalMoves type number (before ++ t ∷ loss leg t.to ∷ later)

-- Without losses each stripe of a history is sound, and from any of them on, until the stripe opens
-- anew, the operations of the steps act on one array.
pub record ActsFrom {L : Type 0} (type : LegType L) (from : Transition L)
    (list : List (Transition L)) : Type 0 where
  pub sound : IsSound type (end_of from.to list).stripe
  pub acts : NoneHalted (answers_of list)
      → ActOnOneArray type.model (steps_of list) (answers_of list)
      from.to.stripe (end_of from.to list).stripe

-- So it is of each history.
abbrev pub HistoryActs : {L : Type 0} → LegType L → Type 0
HistoryActs {L} type =
    (number : ℕ) (before list : List (Transition L)) (from : Transition L)
    → LegalMoves type number (before ++ from ∷ list) → All IsNoLoss (before ++ from ∷ list)
    → All IsNoOpening list → ActsFrom type from list
