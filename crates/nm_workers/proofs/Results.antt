-- The request that is answered has the task that its result is of.
use Rattle.std.proofs.Common.{◌≡◌, ℕ, All, List, [], ◌∷◌, ◌++◌, Option, Some, Result, Ok, Err, OnOk, sym, ap, ◌∙◌, subst, inl}
use Rattle.std.proofs.lemmas.List.Elements.{All-head, All-tail}
use Rattle.nm_requests.specs.declared.task.Task.{Task}
use Rattle.nm_session.specs.declared.outstanding.Outstanding.{Outstanding}
use Rattle.nm_session.specs.declared.outcome.Outcome.{Outcome}
use Rattle.nm_session.specs.Asking.{Answers}
use Rattle.nm_session.specs.CalledValue.{CalledValue}
use Rattle.nm_session.specs.Outcome.{says}
use Rattle.nm_session.specs.declared.serve_fault.ServeFault.{ServeFault}
use Rattle.nm_workers.specs.Hearing.{Settles, SettlesJob}
use Rattle.nm_workers.specs.JobValue.{JobValue}
use Rattle.nm_workers.specs.Results.{AnswersWith, Gives, Moment, Note, called_so}

-- what holds of each holds of one in the middle
at_held : (P : Outstanding → Type 0) (before after : List Outstanding) (held : Outstanding) → All P (before ++ held ∷ after) → P held
at_held P [] after held all = All-head P held after all
at_held P (x ∷ before) after held all = at_held P before after held (All-tail P x (before ++ held ∷ after) all)

module _ {G : Type 0} (F : Note → G → G → Type 0) (old new : Moment G) (done called : CalledValue)
    (index : ℕ) (task : Task) (outcome : Outcome) (same : called ≡ done) (is_index : index ≡ called.index)
    (is_task : task ≡ called.task) (said : says outcome ≡ called.outcome)
    (tasks : All (λ held. held.index ≡ index → held.task ≡ task) old.core.outstanding)
    (answers : Answers old.core index outcome new.core)
    (result : F (Gives done) old.log new.log) where
  its_task : answers.held.task ≡ done.task
  its_task = at_held (λ held. held.index ≡ index → held.task ≡ task) answers.before answers.after answers.held
      (subst (All (λ held. held.index ≡ index → held.task ≡ task)) answers.found tasks) answers.index_is
      ∙ is_task ∙ ap (λ (v : CalledValue). v.task) same

  its_outcome : says outcome ≡ done.outcome
  its_outcome = said ∙ ap (λ (v : CalledValue). v.outcome) same

  its_index : index ≡ done.index
  its_index = is_index ∙ ap (λ (v : CalledValue). v.index) same

  is_done : called_so index answers.held.task (says outcome) ≡ done
  is_done i = called_so (its_index i) (its_task i) (its_outcome i)

  its_result : F (Gives (called_so index answers.held.task (says outcome))) old.log new.log
  its_result = subst (λ (v : CalledValue). F (Gives v) old.log new.log) (sym is_done) result

  -- a request is answered with the result of its task
  pub settles_own : Settles F old done new
  settles_own =
      let own = subst (λ (i : ℕ). (one : AnswersWith F old i outcome new) × (one.answers.held.task ≡ done.task))
      its_index (record { answers = answers; result = its_result }, its_task) in
      inl (record { outcome = outcome; says_so = its_outcome; own = own.0; task_is = own.1 })

-- the job that was held back is answered with what came of it
pub settles_job : {G : Type 0} (F : Note → G → G → Type 0) (result : Result (Unit {0}) ServeFault) (old new : Moment G)
    (deferred : Option JobValue) (job : JobValue) (done : CalledValue) → deferred ≡ Some job → done.index ≡ job.index
    → done.task ≡ job.task → OnOk result (Settles F old done new) → OnOk result (SettlesJob F old deferred new)
settles_job F (Ok x) old new deferred job done is index_is task_is settles = record {
  job = job;
  deferred_is = is;
  outcome = done.outcome;
  settles = subst (λ (v : CalledValue). Settles F old v new) (λ i. called_so (index_is i) (task_is i) done.outcome) settles;
}
settles_job F (Err found) old new deferred job done is index_is task_is settles = tt
