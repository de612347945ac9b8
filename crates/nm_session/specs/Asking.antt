-- What reading and answering a request does to a session.
use Rattle.std.specs.Prelude.{◌≡◌, ℕ, ◌+◌, ◌≤◌, List, [], ◌∷◌, ◌++◌, All, nat_lt, if◌then◌else◌}
use Rattle.std.specs.Prelude.{Option, Some, None, Result, Ok, Err, IfOk}
use Rattle.nm_requests.specs.declared.fault.Fault.{Fault}
use Rattle.nm_requests.specs.declared.request.Request.{Request}
use Rattle.nm_requests.specs.declared.task.Task.{Task}
use Rattle.nm_requests.specs.declared.task.Task.TheVariants as task
use Rattle.nm_requests.specs.First.{message_of}
use Rattle.nm_requests.specs.Judging.{IsFirst, LiesInside, table}
use Rattle.nm_requests.specs.Stream.{StartsWith, EndsAs}
use Rattle.nm_wire.specs.declared.export.Export.{Export}
use Rattle.nm_session.specs.declared.ended_by.EndedBy.TheVariants as by
use Rattle.nm_session.specs.declared.outstanding.Outstanding.{Outstanding}
use Rattle.nm_session.specs.declared.limit.Limit.{Limit}
use Rattle.nm_session.specs.declared.next.Next.{Next}
use Rattle.nm_session.specs.declared.next.Next.TheVariants as next
use Rattle.nm_session.specs.declared.outcome.Outcome.{Outcome}
use Rattle.nm_session.specs.declared.stage.Stage.{Stage}
use Rattle.nm_session.specs.declared.stage.Stage.TheVariants as stage
use Rattle.nm_session.specs.Outcome.{Fits, says, reply_frame}
use Rattle.nm_session.specs.Session.{Session, IsReading, bytes_asked}

-- the error value of memory that is short ("Error values")
abbrev pub no_memory : ℕ
no_memory = 12

-- what was judged, but a READ whose bytes are more than replies may carry is refused
abbrev pub refuse_long : ℕ → Result Task ℕ → Result Task ℕ
refuse_long most (Ok (task.Read offset length)) =
    if nat_lt most length then Err no_memory else Ok (task.Read offset length)
refuse_long most judged = judged

-- the request is judged by the table, and then by how many bytes its reply may carry
pub record IsJudged (export : Export) (limit : Limit) (request : Request) (judged : Result Task ℕ)
    : Type 0 where
  pub by_table : Result Task ℕ
  pub is_first : IsFirst (table request export) by_table
  pub judged_is : judged ≡ refuse_long limit.bytes by_table

-- what is kept of a request that has a task for a target
abbrev pub outstanding_for : Request → Result Task ℕ → List Outstanding
outstanding_for request (Ok task.Nothing) = []
outstanding_for request (Ok task.Disconnect) = []
outstanding_for request (Ok task) =
    (record { index = request.index; task = task; cookie = request.cookie }) ∷ []
outstanding_for request (Err code) = []

-- the reply to a request that needs no target: a refusal's error, or done where nothing is to be
-- done; a DISC has none
abbrev pub own_reply : Request → Result Task ℕ → List ℕ
own_reply request (Ok task.Nothing) = reply_frame request.cookie (Ok [])
own_reply request (Ok task) = []
own_reply request (Err code) = reply_frame request.cookie (Err code)

-- after a DISC nothing more is read
abbrev pub stage_after : Result Task ℕ → Stage
stage_after (Ok task.Disconnect) = stage.Ended by.Disconnect
stage_after (Ok task) = stage.Serving
stage_after (Err code) = stage.Serving

-- what comes next, if anything does
abbrev pub next_after : Request → Result Task ℕ → Option Next
next_after request (Ok task.Nothing) = None
next_after request (Ok task.Disconnect) = Some next.Ended
next_after request (Ok task) = Some (next.Issue request.index task request.payload)
next_after request (Err code) = None

-- the first request that is unread is read, and judged so; the replies to all that are outstanding
-- then carry no more bytes than may be
pub record Asks (old : Session) (request : Request) (judged : Result Task ℕ) (new : Session)
    : Type 0 where
  pub reading : IsReading old
  pub index_is : request.index ≡ old.count
  pub first : StartsWith old.count old.rest (message_of request) new.rest
  pub is_judged : IsJudged old.haggling.export old.limit request judged
  pub inside : IfOk judged (LiesInside request old.haggling.export)
  pub within : bytes_asked (old.outstanding ++ outstanding_for request judged) ≤ old.limit.bytes
  pub new_is : new ≡ record old {
    stage = stage_after judged;
    rest = new.rest;
    count = old.count + 1;
    outstanding = old.outstanding ++ outstanding_for request judged;
    out = old.out ++ own_reply request judged;
  }

-- the unread bytes begin with a header that ends the stream
pub record Stops (old : Session) (fault : Fault) (new : Session) : Type 0 where
  pub reading : IsReading old
  pub ends : EndsAs old.count old.rest (Some fault)
  pub new_is : new ≡ record old { stage = stage.Ended by.Protocol }

-- the outcome is one that the task of the request with this index can have
abbrev pub FitsAt : ℕ → Outcome → List Outstanding → Type 0
FitsAt index outcome outstanding =
    All (λ held. held.index ≡ index → Fits held.task outcome) outstanding

-- an outstanding request is answered with this outcome of its task
pub record Answers (old : Session) (index : ℕ) (outcome : Outcome) (new : Session)
    : Type 0 where
  pub before : List Outstanding
  pub held : Outstanding
  pub after : List Outstanding
  pub found : old.outstanding ≡ before ++ held ∷ after
  pub index_is : held.index ≡ index
  pub fits : Fits held.task outcome
  pub new_is : new ≡ record old {
    outstanding = before ++ after;
    out = old.out ++ reply_frame held.cookie (says outcome);
  }
