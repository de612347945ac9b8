-- A step that was done, with its answer.
use Rattle.nm_stripe.specs.declared.answer.Answer.{Answer}
use Rattle.nm_stripe.specs.declared.step.Step.{Step}

-- a step and what it was answered
pub record Done (L : Type 0) : Type 0 where
  pub step : Step L
  pub answer : Answer L

-- this step, answered so
abbrev pub done_as : {L : Type 0} → Step L → Answer L → Done L
done_as step answer = record { step = step; answer = answer }
