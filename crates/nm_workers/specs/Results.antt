-- Which results the requests of a session are answered with, and where these stand in the history
-- of its targets.
use Rattle.std.specs.Prelude.{◌≡◌, ℕ, List, [], ◌∷◌, Result}
use Rattle.nm_requests.specs.declared.task.Task.{Task}
use Rattle.nm_requests.specs.declared.request.Request.{Request}
use Rattle.nm_session.specs.declared.outcome.Outcome.{Outcome}
use Rattle.nm_session.specs.declared.outstanding.Outstanding.{Outstanding}
use Rattle.nm_session.specs.declared.session_log.SessionLog as log
use Rattle.nm_session.specs.declared.target.Target as target
use Rattle.nm_session.specs.Asking.{Answers, Asks, outstanding_for}
use Rattle.nm_session.specs.CalledValue.{CalledValue}
use Rattle.nm_session.specs.Calling.{TaskResult, Calls}
use Rattle.nm_session.specs.Event.{Event, Asked, Answered, Step}
use Rattle.nm_session.specs.Laws.{AreReadings}
use Rattle.nm_session.specs.Outcome.{says}
use Rattle.nm_session.specs.Session.{Session}

-- what a target gave when it was called for this task and for nothing else, with the payload with
-- which the request of this index came, right after it had heard of that arrival: the calls stand
-- in its history behind it, and in what is told
pub record IsResult {T H G : Type 0} (target : target.Ghosts T H G) (log : log.Ghosts G H)
    (session : ℕ) (called : CalledValue) (told : H) : Type 0 where
  pub payload : List ℕ
  pub asked : H
  pub has_come : log.has_come session called.index payload asked
  pub earlier : T
  pub before : T
  pub after : T
  pub hears : target.hears earlier asked before
  pub calls : Calls called.task payload called.outcome
      (λ calls. target.follows before calls after)
  pub has_told : target.has_told after told

-- what a session notes in its log: that a request came, with its payload, or what one is answered
-- with
pub data Note : Type 0 where
  Comes : (index : ℕ) → (payload : List ℕ) → Note
  Gives : (called : CalledValue) → Note

-- what tells of such a result is taken in
pub record TakesIn {T H G : Type 0} (target : target.Ghosts T H G) (log : log.Ghosts G H)
    (session : ℕ) (called : CalledValue) (old new : G) : Type 0 where
  pub told : H
  pub result : IsResult target log session called told
  pub hears : log.hears old told new

-- the note leads a log from one state to the other: the request's arrival is noted, or what tells
-- of the result is taken in. The log stays the session's
abbrev pub IsNoted : {T H G : Type 0} → target.Ghosts T H G → log.Ghosts G H → (session : ℕ)
    → Note → (old new : G) → Type 0
IsNoted target log session (Comes index payload) old new =
    log.asks old index payload new × (log.session new ≡ log.session old)
IsNoted target log session (Gives called) old new =
    TakesIn target log session called old new × (log.session new ≡ log.session old)

-- what came of the request of this index and task
abbrev pub called_so : (index : ℕ) → Task → TaskResult → CalledValue
called_so index task outcome = record { index = index; task = task; outcome = outcome }

-- a session's core and its log
pub record Moment (G : Type 0) : Type 0 where
  pub core : Session
  pub log : G

abbrev pub moment : {G : Type 0} → Session → G → Moment G
moment core log = record { core = core; log = log }

module _ {G : Type 0} (Notes : Note → G → G → Type 0) where
  -- the arrival of a request that has a task for a target is noted, with its payload
  abbrev pub NotesFor : (payload : List ℕ) → List Outstanding → G → G → Type 0
  NotesFor payload [] old new = new ≡ old
  NotesFor payload (held ∷ others) old new = Notes (Comes held.index payload) old new

  -- a request is read
  pub record AsksWith (old : Moment G) (request : Request) (judged : Result Task ℕ) (new : Moment G)
      : Type 0 where
    pub asks : Asks old.core request judged new.core
    pub notes : NotesFor request.payload (outstanding_for request judged) old.log new.log

  -- an outstanding request is answered with a result of its own task
  pub record AnswersWith (old : Moment G) (index : ℕ) (outcome : Outcome) (new : Moment G)
      : Type 0 where
    pub answers : Answers old.core index outcome new.core
    pub result : Notes (Gives (called_so index answers.held.task (says outcome))) old.log new.log

  -- the event leads from one moment to the other; an answer is a result of its own request's task
  abbrev pub StepWith : Moment G → Event → Moment G → Type 0
  StepWith old (Asked request judged) new = AsksWith old request judged new
  StepWith old (Answered index outcome) new = AnswersWith old index outcome new
  StepWith old event new = Step old.core event new.core × (new.log ≡ old.log)

  -- the events lead from one moment to the other; each answer is a result of its own request's task
  abbrev pub RunsWith : Moment G → List Event → Moment G → Type 0
  RunsWith old [] new = new ≡ old
  RunsWith old (event ∷ events) new =
      (mid : Moment G) × StepWith old event mid × RunsWith mid events new

  -- requests are read, and their arrivals noted
  pub record ReadsWith (old new : Moment G) : Type 0 where
    pub events : List Event
    pub are_readings : AreReadings events
    pub runs : RunsWith old events new

-- nothing is noted: so it is while the client and the server haggle
abbrev pub no_note : Note → (old new : Unit {0}) → Type 0
no_note note old new = ⊥
