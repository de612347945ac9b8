-- Events that answer each request with a result of its own task are events.
use Rattle.std.proofs.Common.{◌≡◌, ℕ, List, [], ◌∷◌, ◌++◌, refl, ap, subst}
use Rattle.nm_session.specs.declared.outstanding.Outstanding.{Outstanding}
use Rattle.nm_session.specs.Asking.{outstanding_for}
use Rattle.nm_session.specs.Event.{Event, Fed, Asked, Stopped, Answered, Took, Runs}
use Rattle.nm_session.specs.Session.{Session}
use Rattle.nm_workers.specs.Results.{Moment, moment, Note, NotesFor, RunsWith, no_note}

-- a core and a log that stay are the same moment
pub same_moment : {G : Type 0} (old new : Session) (log other : G) → new ≡ old → other ≡ log
    → moment new other ≡ moment old log
same_moment old new log other core_is log_is i = moment (core_is i) (log_is i)

module _ {G : Type 0} (F : Note → G → G → Type 0) where
  pub runs_with-append : (a b c : Moment G) (xs ys : List Event) → RunsWith F a xs b → RunsWith F b ys c
      → RunsWith F a (xs ++ ys) c
  runs_with-append a b c [] ys first second = subst (λ (start : Moment G). RunsWith F start ys c) first second
  runs_with-append a b c (x ∷ xs) ys first second =
      (first.0, first.1, runs_with-append first.0 b c xs ys first.2 second)

  -- whatever is noted
  pub runs_of : (old new : Moment G) (events : List Event) → RunsWith F old events new → Runs old.core events new.core
  runs_of old new [] runs = ap (λ (m : Moment G). m.core) runs
  runs_of old new (Fed piece ∷ events) runs = (runs.0.core, runs.1.0, runs_of runs.0 new events runs.2)
  runs_of old new (Asked request judged ∷ events) runs =
      (runs.0.core, runs.1.asks, runs_of runs.0 new events runs.2)
  runs_of old new (Stopped found ∷ events) runs = (runs.0.core, runs.1.0, runs_of runs.0 new events runs.2)
  runs_of old new (Answered index outcome ∷ events) runs =
      (runs.0.core, runs.1.answers, runs_of runs.0 new events runs.2)
  runs_of old new (Took bytes ∷ events) runs = (runs.0.core, runs.1.0, runs_of runs.0 new events runs.2)

  -- where nothing can be noted, the log stays
  none_for : (payload : List ℕ) (held : List Outstanding) (a b : Unit {0}) (log : G) → NotesFor no_note payload held a b
      → NotesFor F payload held log log
  none_for payload [] a b log notes = refl
  none_for payload (one ∷ others) a b log notes = absurd notes

  pub unnoted_with : (old new : Moment (Unit {0})) (log : G) (events : List Event) → RunsWith no_note old events new
      → RunsWith F (moment old.core log) events (moment new.core log)
  unnoted_with old new log [] runs = ap (λ (m : Moment (Unit {0})). moment m.core log) runs
  unnoted_with old new log (Fed piece ∷ events) runs =
      (moment runs.0.core log, (runs.1.0, refl), unnoted_with runs.0 new log events runs.2)
  unnoted_with old new log (Asked request judged ∷ events) runs = (
    moment runs.0.core log,
    record {
      asks = runs.1.asks;
      notes = none_for request.payload (outstanding_for request judged) old.log runs.0.log log runs.1.notes;
    },
    unnoted_with runs.0 new log events runs.2,
  )
  unnoted_with old new log (Stopped found ∷ events) runs =
      (moment runs.0.core log, (runs.1.0, refl), unnoted_with runs.0 new log events runs.2)
  unnoted_with old new log (Answered index outcome ∷ events) runs = absurd runs.1.result
  unnoted_with old new log (Took bytes ∷ events) runs =
      (moment runs.0.core log, (runs.1.0, refl), unnoted_with runs.0 new log events runs.2)
