-- What the definitions say of a session's requests, their arrivals and its replies.
use Rattle.std.specs.Prelude.{◌≡◌, ℕ, ◌<◌, List, [], ◌∷◌, ◌++◌, Result}
use Rattle.nm_requests.specs.declared.request.Request.{Request}
use Rattle.nm_requests.specs.declared.task.Task.{Task}
use Rattle.nm_session.specs.declared.outcome.Outcome.{Outcome}
use Rattle.nm_session.specs.declared.outstanding.Outstanding.{Outstanding}
use Rattle.nm_session.specs.Asking.{outstanding_for}
use Rattle.nm_session.specs.Event.{Event, Asked, Answered}
use Rattle.nm_workers.specs.Results.{Moment, Note, Comes, RunsWith, AsksWith, AnswersWith}

module _ {G : Type 0} (Notes : Note → G → G → Type 0) where
  -- among these events this request was read, and its arrival noted
  pub record HasCome (from : Moment G) (events : List Event) (held : Outstanding) (to : Moment G)
      : Type 0 where
    pub before : List Event
    pub request : Request
    pub judged : Result Task ℕ
    pub between : List Event
    pub events_are : events ≡ before ++ Asked request judged ∷ between
    pub is_held : outstanding_for request judged ≡ held ∷ []
    pub old : Moment G
    pub new : Moment G
    pub earlier : RunsWith Notes from before old
    pub reads : AsksWith Notes old request judged new
    pub comes : Notes (Comes held.index request.payload) old.log new.log
    pub later : RunsWith Notes new between to

  -- from where none is outstanding on, as in a new session, each request that is answered was read
  -- since, and its arrival noted then
  abbrev pub AnswersWhatCame : Type 0
  AnswersWhatCame =
      (from : Moment G) (events : List Event) (old : Moment G) (index : ℕ) (outcome : Outcome)
      (new : Moment G) → from.core.outstanding ≡ [] → RunsWith Notes from events old
      → (answer : AnswersWith Notes old index outcome new)
      → HasCome from events answer.answers.held old

  -- and no request is answered twice
  abbrev pub AnswersOnce : Type 0
  AnswersOnce =
      (old : Moment G) (before between after : List Event) (index : ℕ) (outcome other : Outcome)
      (new : Moment G) → old.core.outstanding ≡ []
      → RunsWith Notes old
      (before ++ Answered index outcome ∷ (between ++ Answered index other ∷ after)) new → ⊥

  -- a request that is read later has a larger index, so that no two arrivals have one
  abbrev pub ArrivalsRise : Type 0
  ArrivalsRise =
      (before between after : List Event) (request other : Request) (judged later : Result Task ℕ)
      (old new : Moment G)
      → RunsWith Notes old
      (before ++ Asked request judged ∷ (between ++ Asked other later ∷ after)) new
      → request.index < other.index
