-- What happens in a session, one event after the other.
use Rattle.std.specs.Prelude.{◌≡◌, ℕ, List, [], ◌∷◌, ◌++◌, Result}
use Rattle.nm_requests.specs.declared.fault.Fault.{Fault}
use Rattle.nm_requests.specs.declared.request.Request.{Request}
use Rattle.nm_requests.specs.declared.task.Task.{Task}
use Rattle.nm_requests.specs.First.{message_of}
use Rattle.nm_requests.specs.Message.{Message}
use Rattle.nm_session.specs.declared.outcome.Outcome.{Outcome}
use Rattle.nm_session.specs.Asking.{Asks, Stops, Answers}
use Rattle.nm_session.specs.Feeding.{Feeds}
use Rattle.nm_session.specs.Session.{Session}

-- a piece of the client's bytes is fed; a request is read, and judged so; a header that ends the
-- stream is found; a request is answered with an outcome; the bytes that wait are taken
pub data Event : Type 0 where
  Fed : (piece : List ℕ) → Event
  Asked : (request : Request) (judged : Result Task ℕ) → Event
  Stopped : (fault : Fault) → Event
  Answered : (index : ℕ) (outcome : Outcome) → Event
  Took : (bytes : List ℕ) → Event

-- the bytes that waited are taken, and none wait
pub record Takes (old : Session) (bytes : List ℕ) (new : Session) : Type 0 where
  pub bytes_are : bytes ≡ old.out
  pub new_is : new ≡ record old { out = [] }

-- the event leads from one state to the other
abbrev pub Step : Session → Event → Session → Type 0
Step old (Fed piece) new = Feeds old piece new
Step old (Asked request judged) new = Asks old request judged new
Step old (Stopped fault) new = Stops old fault new
Step old (Answered index outcome) new = Answers old index outcome new
Step old (Took bytes) new = Takes old bytes new

-- the events lead from one state to the other
abbrev pub Runs : Session → List Event → Session → Type 0
Runs old [] new = new ≡ old
Runs old (event ∷ events) new = (mid : Session) × Step old event mid × Runs mid events new

-- the bytes that were fed
abbrev pub fed_bytes : List Event → List ℕ
fed_bytes [] = []
fed_bytes (Fed piece ∷ events) = piece ++ fed_bytes events
fed_bytes (_ ∷ events) = fed_bytes events

-- the bytes that were taken
abbrev pub taken_bytes : List Event → List ℕ
taken_bytes [] = []
taken_bytes (Took bytes ∷ events) = bytes ++ taken_bytes events
taken_bytes (_ ∷ events) = taken_bytes events

-- the requests that were read, as the stream has them
abbrev pub messages : List Event → List Message
messages [] = []
messages (Asked request judged ∷ events) = message_of request ∷ messages events
messages (_ ∷ events) = messages events
