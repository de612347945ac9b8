-- What a contract sees of a job.
use Rattle.std.specs.Prelude.{ℕ, List}
use Rattle.nm_requests.specs.declared.task.Task.{Task}
use Rattle.nm_session.specs.CalledValue.{CalledValue}
use Rattle.nm_session.specs.Calling.{TaskResult}

-- a request's index, task and payload
pub record JobValue : Type 0 where
  pub index : ℕ
  pub task : Task
  pub payload : List ℕ

-- what is told of a job of which this came
abbrev pub called_for : JobValue → TaskResult → CalledValue
called_for job outcome = record { index = job.index; task = job.task; outcome = outcome }
