-- A history of a stripe: moves, each with the stripe and its gate as it left them.
use Rattle.std.specs.Prelude.{◌≡◌, ℕ, List, [], ◌∷◌, Option, None, Some}
use Rattle.nm_leg.specs.Leg.{LegType}
use Rattle.nm_rules.specs.Invariant.{Keeps}
use Rattle.nm_gate.specs.declared.gated_stripe.GatedStripe.{GatedStripe}
use Rattle.nm_history.specs.declared.transition.Move.TheVariants.{Opens}
use Rattle.nm_history.specs.declared.transition.Transition.{Transition}
use Rattle.nm_history.specs.Lost.{lost_after, none_lost}
use Rattle.nm_history.specs.Moves.{MoveOf}

-- the first of the transitions leaves from here, where these legs had lost power, and each other
-- from where the one before led
abbrev pub Follow : {L : Type 0} → LegType L → (lost : ℕ → Type 0) → GatedStripe L
    → List (Transition L) → Type 0
Follow type lost from [] = Unit {0}
Follow type lost from (t ∷ list) =
    MoveOf type lost t.made from t.to × Follow type (lost_after t.made lost) t.to list

-- The transitions are the history of the stripe of this number: by the first it comes under its
-- lock, as a stripe that keeps what every stripe keeps, and each other leaves from where the one
-- before led.
abbrev pub LegalMoves : {L : Type 0} → LegType L → ℕ → List (Transition L) → Type 0
LegalMoves type number [] = Unit {0}
LegalMoves type number (first ∷ list) =
    (first.made ≡ Opens) × Keeps type first.to.stripe
    × (first.to.stripe.place.stripe ≡ number) × Follow type none_lost first.to list

-- where the transitions lead from here
abbrev pub end_of : {L : Type 0} → GatedStripe L → List (Transition L) → GatedStripe L
end_of from [] = from
end_of from (t ∷ list) = end_of t.to list

-- where they lead, if there are any
abbrev pub last_of : {L : Type 0} → List (Transition L) → Option (GatedStripe L)
last_of [] = None
last_of (first ∷ list) = Some (end_of first.to list)

-- the transitions are the history of the stripe of this number, and it is this stripe now
pub record LeadsTo {L : Type 0} (type : LegType L) (number : ℕ) (list : List (Transition L))
    (now : GatedStripe L) : Type 0 where
  pub legal : LegalMoves type number list
  pub last : last_of list ≡ Some now
