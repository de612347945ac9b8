-- What came of a request's task, and the reply that says so.
use Rattle.std.specs.Prelude.{◌≡◌, ◌≢◌, ℕ, List, [], length, Result, Ok, Err, IfOk, IfErr}
use Rattle.nm_replies.specs.Answer.{frame_of}
use Rattle.nm_requests.specs.declared.task.Task.{Task}
use Rattle.nm_requests.specs.declared.task.Task.TheVariants.{Read}
use Rattle.nm_session.specs.declared.outcome.Outcome.{Outcome}
use Rattle.nm_session.specs.declared.outcome.Outcome.TheVariants.{Done, Data, Error}

-- the bytes that were read, none where nothing was to be read, or the error
abbrev pub says : Outcome → Result (List ℕ) ℕ
says Done = Ok []
says (Data bytes) = Ok bytes
says (Error code) = Err code

-- how many bytes the reply to a task carries
abbrev pub reply_length : Task → ℕ
reply_length (Read offset length) = length
reply_length _ = 0

-- the outcome is one that the task can have: as many bytes as a READ asks for, and none of another
-- task; an error is not 0
abbrev pub Fits : Task → Outcome → Type 0
Fits task outcome =
    IfOk (says outcome) (λ bytes. length bytes ≡ reply_length task)
    × IfErr (says outcome) (λ code. code ≢ 0)

-- the frame of the reply to the request with this cookie
abbrev pub reply_frame : ℕ → Result (List ℕ) ℕ → List ℕ
reply_frame cookie (Ok bytes) = frame_of (record { error = 0; cookie = cookie; bytes = bytes })
reply_frame cookie (Err code) = frame_of (record { error = code; cookie = cookie; bytes = [] })
