-- What a worker's target was called for.
use Rattle.std.specs.Prelude.{◌≡◌, ℕ, List, [], ◌∷◌, ◌++◌, Bool, true}
use Rattle.nm_requests.specs.declared.task.Task.{Task}
use Rattle.nm_session.specs.declared.target.Target as target
use Rattle.nm_session.specs.Calling.{Calls, TaskResult}
use Rattle.nm_session.specs.CalledValue.{CalledValue}

-- a target heard something, and was called for this task, with this outcome, and for nothing else
pub record HearsAndCalls {T H G : Type 0} (target : target.Ghosts T H G) (task : Task)
    (payload : List ℕ) (outcome : TaskResult) (from to : T) : Type 0 where
  pub asked : H
  pub heard : T
  pub hears : target.hears from asked heard
  pub calls : Calls task payload outcome (λ calls. target.follows heard calls to)

-- a target was called for one of these tasks after the other, with these results, and for nothing
-- else
abbrev pub HasDone : {T H G : Type 0} → target.Ghosts T H G → T → List CalledValue → T → Type 0
HasDone target from [] to = to ≡ from
HasDone {T} target from (called ∷ more) to = (between : T) × (payload : List ℕ)
    × HearsAndCalls target called.task payload called.outcome from between
    × HasDone target between more to

-- a worker's target was called for the tasks whose results the worker told, in that order, and then
-- for those whose results nobody heard
pub record WorksFor {T H G : Type 0} (target : target.Ghosts T H G) (from to : T)
    (heard : Bool) (before after : List CalledValue) : Type 0 where
  pub told : List CalledValue
  pub untold : List CalledValue
  pub after_is : after ≡ before ++ told
  pub done : HasDone target from (told ++ untold) to
  pub all_told : heard ≡ true → untold ≡ []
