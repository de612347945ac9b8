-- The list of the steps that a call does on all stripes, and each stripe's part of it.
use Rattle.std.specs.Prelude.{◌≡◌, ℕ, ◌<◌, ◌==◌, if◌then◌else◌, List, [], ◌∷◌, length, map}
use Rattle.std.specs.Prelude.{slice_get, Some}
use Rattle.nm_stripe.specs.declared.answer.Answer.{Answer}
use Rattle.nm_stripe.specs.declared.step.Step.{Step}
use Rattle.nm_lanes.specs.Done.{Done}
use Rattle.nm_lanes.specs.Own.{helps}

-- a step that was done in this stripe
pub record MirrorStep (L : Type 0) : Type 0 where
  pub stripe : ℕ
  pub done : Done L

-- steps of one stripe, as steps of the mirror
abbrev pub steps_in : {L : Type 0} → ℕ → List (Done L) → List (MirrorStep L)
steps_in stripe list = map (λ d. record { stripe = stripe; done = d }) list

-- the steps of one stripe, in order
abbrev pub stripe_list : {L : Type 0} → ℕ → List (MirrorStep L) → List (Done L)
stripe_list stripe [] = []
stripe_list stripe (d ∷ list) =
    if d.stripe == stripe then d.done ∷ stripe_list stripe list else stripe_list stripe list

-- what was asked in the steps of one stripe, in order
abbrev pub steps_of : {L : Type 0} → ℕ → List (MirrorStep L) → List (Step L)
steps_of stripe list = map (λ d. d.step) (stripe_list stripe list)

-- what they were answered, in order
abbrev pub answers_of : {L : Type 0} → ℕ → List (MirrorStep L) → List (Answer L)
answers_of stripe list = map (λ d. d.answer) (stripe_list stripe list)

-- each step is one of so many stripes
abbrev pub AreOf : {L : Type 0} → ℕ → List (MirrorStep L) → Type 0
AreOf stripes [] = Unit {0}
AreOf stripes (d ∷ list) = (d.stripe < stripes) × AreOf stripes list

-- the call's own steps: those that do not only help
abbrev pub own_steps : {L : Type 0} → List (MirrorStep L) → List (MirrorStep L)
own_steps [] = []
own_steps (d ∷ list) =
    if helps d.done.step d.done.answer then own_steps list else d ∷ own_steps list

-- each stripe's steps lead its lane from its state before to its state after
pub record Leads {L D : Type 0} (follows : D → List (Done L) → D → Type 0) (old : List D)
    (list : List (MirrorStep L)) (new : List D) : Type 0 where
  pub as_many : length new ≡ length old
  pub each :
      (stripe : ℕ) (before after : D) → slice_get old stripe ≡ Some before
      → slice_get new stripe ≡ Some after → follows before (stripe_list stripe list) after

-- steps whose own ones are these lead all lanes from one state to another
pub record Does {L D : Type 0} (follows : D → List (Done L) → D → Type 0) (old new : List D)
    (own : List (MirrorStep L)) : Type 0 where
  pub list : List (MirrorStep L)
  pub leads : Leads follows old list new
  pub own_is : own_steps list ≡ own
