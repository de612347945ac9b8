-- What a contract sees of a `Called`.
use Rattle.std.specs.Prelude.{ℕ, List, Result}
use Rattle.nm_session.specs.declared.called.Called.TheInside.{Inside}
use Rattle.nm_requests.specs.declared.task.Task.{Task}
use Rattle.nm_session.specs.Outcome.{says}

-- a request's index and task, and what came of it: the bytes that were read or the error
pub record CalledValue : Type 0 where
  pub index : ℕ
  pub task : Task
  pub outcome : Result (List ℕ) ℕ

abbrev pub called_value : Inside → CalledValue
called_value called =
    record { index = called.index; task = called.task; outcome = says called.outcome }
