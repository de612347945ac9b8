-- What is told after a job's calls is no call.
use Rattle.std.proofs.Common.{ℕ, List, [], ◌++◌, subst, append-nil}
use Rattle.nm_requests.specs.declared.task.Task.{Task}
use Rattle.nm_session.specs.Calling.{Calls, TaskResult}
use Rattle.nm_session.specs.Target.{TargetCall}

module _ {T : Type 0} (follows : T → List TargetCall → T → Type 0)
    (joins : (from between to : T) (first second : List TargetCall) → follows from first between
    → follows between second to → follows from (first ++ second) to)
    (task : Task) (payload : List ℕ) (outcome : TaskResult) (a b c : T) where
  pub told_calls : Calls task payload outcome (λ calls. follows a calls b) → follows b [] c
      → Calls task payload outcome (λ calls. follows a calls c)
  told_calls calls tells = record {
    calls = calls.calls;
    are = calls.are;
    leads = subst (λ (all : List TargetCall). follows a all c) (append-nil calls.calls)
        (joins a b c calls.calls [] calls.leads tells);
  }
