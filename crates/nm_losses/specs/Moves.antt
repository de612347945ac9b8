-- Moves of a stripe whose legs may lose power while they are out: no step calls such a leg, so what
-- it lost shows once it is back, and not before.
use Rattle.std.specs.Prelude.{◌≡◌, ℕ, List, [], ◌∷◌, Option}
use Rattle.nm_leg.specs.Leg.{LegType}
use Rattle.nm_rules.specs.Reopening.{Marks}
use Rattle.nm_rules.specs.State.{StripeState}
use Rattle.nm_stripe.specs.declared.answer.Answer.{Answer}
use Rattle.nm_stripe.specs.declared.step.Step.{Step}
use Rattle.nm_stripe.specs.declared.step.Step.TheVariants.{Attach}
use Rattle.nm_stripe.specs.Run.{MayBeAsked, StepOf}
use Rattle.nm_rules.specs.Losing.{ReturnsLost}
use Rattle.nm_gate.specs.Looking.{LooksAt}

-- a step with its answer, a look at a leg, or a leg that comes back as this part, with these marks
pub data Move (L : Type 0) : Type 0 where
  Does : Step L → Answer L → Move L
  Looks : (leg block : ℕ) → Option (List ℕ) → Move L
  ComesBack : ℕ → L → Marks → Move L

-- the step is no attach, by which a leg joins as if it had lost nothing
abbrev pub IsNoAttach : {L : Type 0} → Step L → Type 0
IsNoAttach (Attach leg) = ⊥
IsNoAttach step = Unit {0}

-- a step that may be asked for is done
pub record DoesStep {L : Type 0} (type : LegType L) (step : Step L) (answer : Answer L)
    (old new : StripeState L) : Type 0 where
  pub no_attach : IsNoAttach step
  pub asked : MayBeAsked type.model old step
  pub does : StepOf type step answer old new

-- a move leads from one stripe to the other
abbrev pub MoveOf : {L : Type 0} → LegType L → Move L → (old new : StripeState L) → Type 0
MoveOf type (Does step answer) old new = DoesStep type step answer old new
MoveOf type (Looks leg block found) old new = LooksAt type leg block found old new
MoveOf type (ComesBack leg part marks) old new = ReturnsLost type.model old new leg part marks

-- the moves do, one after the other
abbrev pub LossyRuns : {L : Type 0} → LegType L → List (Move L) → (old new : StripeState L)
    → Type 0
LossyRuns type [] old new = new ≡ old
LossyRuns {L} type (move ∷ moves) old new =
    (mid : StripeState L) × MoveOf type move old mid × LossyRuns type moves mid new

-- the steps among the moves
abbrev pub steps_of : {L : Type 0} → List (Move L) → List (Step L)
steps_of [] = []
steps_of (Does step answer ∷ moves) = step ∷ steps_of moves
steps_of (Looks leg block found ∷ moves) = steps_of moves
steps_of (ComesBack leg part marks ∷ moves) = steps_of moves

-- and their answers
abbrev pub answers_of : {L : Type 0} → List (Move L) → List (Answer L)
answers_of [] = []
answers_of (Does step answer ∷ moves) = answer ∷ answers_of moves
answers_of (Looks leg block found ∷ moves) = answers_of moves
answers_of (ComesBack leg part marks ∷ moves) = answers_of moves
