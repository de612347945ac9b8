-- A session, as its core keeps it: everything that is needed to go on, and nothing of the past.
use Rattle.std.specs.Prelude.{◌≡◌, ◌≢◌, ℕ, ◌+◌, ◌*◌, ◌<◌, ◌≤◌, ◌⊎◌, All, List, [], ◌∷◌, length}
use Rattle.std.specs.Prelude.{Option, Some, None}
use Rattle.nm_wire.specs.declared.export.Export.{Export}
use Rattle.nm_wire.specs.Sizes.{max_payload}
use Rattle.nm_haggle.specs.Haggling.{Haggling, initial_state, greeting_bytes}
use Rattle.nm_requests.specs.First.{BeginsRead}
use Rattle.nm_requests.specs.Message.{Message, read_length}
use Rattle.nm_requests.specs.Stream.{StartsWith}
use Rattle.nm_session.specs.declared.ended_by.EndedBy.{EndedBy}
use Rattle.nm_session.specs.declared.outstanding.Outstanding.{Outstanding}
use Rattle.nm_session.specs.declared.limit.Limit.{Limit}
use Rattle.nm_session.specs.declared.phase.Phase.{Phase}
use Rattle.nm_session.specs.declared.phase.Phase.TheVariants as phase
use Rattle.nm_session.specs.declared.stage.Stage.{Stage}
use Rattle.nm_session.specs.declared.stage.Stage.TheVariants as stage
use Rattle.nm_session.specs.Outcome.{reply_length}

-- what may be outstanding; what the client's bytes are; the haggling; the bytes that
-- are no request yet; how many requests were read; those that are not answered, in the order in
-- which they were read; and the bytes that wait to go out
pub record Session : Type 0 where
  pub limit : Limit
  pub stage : Stage
  pub haggling : Haggling
  pub rest : List ℕ
  pub count : ℕ
  pub outstanding : List Outstanding
  pub out : List ℕ

-- a new session over an export: the greeting waits to go out
abbrev pub session_of : Export → Limit → Session
session_of export limit = record {
  limit = limit;
  stage = stage.Haggling;
  haggling = initial_state export;
  rest = [];
  count = 0;
  outstanding = [];
  out = greeting_bytes;
}

-- so many requests may be outstanding, and their replies carry what they ask for
abbrev pub so_many : ℕ → Limit
so_many requests = record { requests = requests; bytes = requests * max_payload }

-- how many bytes the replies to these requests carry at most
abbrev pub bytes_asked : List Outstanding → ℕ
bytes_asked [] = 0
bytes_asked (held ∷ others) = reply_length held.task + bytes_asked others

-- the next request is a READ of so many bytes, which fit by themselves into what replies may carry,
-- and do not beside those of the requests that are outstanding
pub record LacksRoom (session : Session) : Type 0 where
  pub bytes : ℕ
  pub next : BeginsRead session.rest bytes
  pub alone : bytes ≤ session.limit.bytes
  pub more : session.limit.bytes < bytes_asked session.outstanding + bytes

-- where the next request is a READ that fits by itself, it also fits beside those
abbrev pub HasRoom : Session → Type 0
HasRoom session = (message : Message) (after : List ℕ)
    → StartsWith session.count session.rest message after
    → read_length message.head ≤ session.limit.bytes
    → bytes_asked session.outstanding + read_length message.head ≤ session.limit.bytes

-- requests are read, and fewer are outstanding than may be
pub record IsReading (session : Session) : Type 0 where
  pub serving : session.stage ≡ stage.Serving
  pub free : length session.outstanding < session.limit.requests

-- requests are read, and as many are outstanding as may be, or the next one has to wait for replies
pub record IsFull (session : Session) : Type 0 where
  pub serving : session.stage ≡ stage.Serving
  pub full : (length session.outstanding ≡ session.limit.requests) ⊎ LacksRoom session

-- a request of this index was read, and is not outstanding
pub record IsSettled (session : Session) (index : ℕ) : Type 0 where
  pub read : index < session.count
  pub answered : All (λ held. held.index ≢ index) session.outstanding

-- what ended a session at this stage
abbrev pub ended_by : Stage → Option EndedBy
ended_by stage.Haggling = None
ended_by stage.Serving = None
ended_by (stage.Ended by) = Some by

-- how far a session is, once nothing more is read
abbrev pub ended_phase : List Outstanding → Phase
ended_phase [] = phase.Closed
ended_phase (held ∷ others) = phase.Draining

-- how far a session is, by its stage and the requests that are not answered
abbrev pub phase_at : Stage → List Outstanding → Phase
phase_at stage.Haggling outstanding = phase.Haggling
phase_at stage.Serving outstanding = phase.Serving
phase_at (stage.Ended by) outstanding = ended_phase outstanding
