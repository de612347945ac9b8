-- How a session over several targets is served, and what is known of it then.
use Rattle.std.specs.Prelude.{◌≡◌, ℕ, List, [], ◌++◌, length, Option, Some, None}
use Rattle.std.specs.Prelude.{Result, Ok, Err}
use Rattle.std.specs.Io.KnownBytes.{Appends, Consumes}
use Rattle.nm_replies.specs.Sending.{device_of}
use Rattle.nm_wire.specs.declared.export.Export.{Export}
use Rattle.nm_session.specs.declared.end.End.TheVariants as end
use Rattle.nm_session.specs.declared.serve_fault.ServeFault.{ServeFault}
use Rattle.nm_session.specs.declared.served.Served.{Served}
use Rattle.nm_session.specs.Event.{Event, fed_bytes, taken_bytes, messages}
use Rattle.nm_session.specs.Serving.{IsEnd}
use Rattle.nm_session.specs.Session.{Session, session_of, so_many}
use Rattle.nm_session.specs.Text.{GoesOut}
use Rattle.nm_workers.specs.declared.session.Finished.{Finished}
use Rattle.nm_workers.specs.Moving.{IsCause}
use Rattle.nm_workers.specs.Results.{moment, Note, RunsWith, no_note}

-- what the reader has left and what the writer holds, where they tell it, and the session's log
pub record Io (G : Type 0) : Type 0 where
  pub input : Option (List ℕ)
  pub output : Option (List ℕ)
  pub log : G

abbrev pub io : {G : Type 0} → (input output : Option (List ℕ)) → (log : G) → Io G
io input output log = record { input = input; output = output; log = log }

-- what the writer of a session that is over holds, and the log
pub record Left (G : Type 0) : Type 0 where
  pub output : Option (List ℕ)
  pub log : G

abbrev pub left : {G : Type 0} → (output : Option (List ℕ)) → (log : G) → Left G
left output log = record { output = output; log = log }

-- the session goes from one core to another: what is read is fed, what is taken out is written, and
-- each answer is a result of its own request's task
pub record Goes {G : Type 0} (Notes : Note → G → G → Type 0) (from to : Session)
    (before after : Io G) : Type 0 where
  pub events : List Event
  pub runs : RunsWith Notes (moment from before.log) events (moment to after.log)
  pub consumes : Consumes before.input after.input (fed_bytes events)
  pub appends : Appends before.output after.output (taken_bytes events)

-- from this core on the session comes to its end: the bytes fed are the first of those that
-- are read, all where they ended; all that goes out is written, and each request is answered with a
-- result of its own task
pub record Ends {G : Type 0} (Notes : Note → G → G → Type 0) (served : Served) (core : Session)
    (before : Io G) (after : Left G) : Type 0 where
  pub events : List Event
  pub last : Session
  pub unread : Option (List ℕ)
  pub unfed : List ℕ
  pub runs : RunsWith Notes (moment core before.log) events (moment last after.log)
  pub consumes : Consumes before.input unread (fed_bytes events ++ unfed)
  pub all_fed : served.end ≡ end.EndOfInput → unfed ≡ []
  pub appends : Appends before.output after.output (taken_bytes events)
  pub answered : last.outstanding ≡ []
  pub sent : last.out ≡ []
  pub requests : served.requests ≡ last.count
  pub end_is : IsEnd served.end last unread

-- from this core on a fault breaks the session off
pub record Breaks {G : Type 0} (Notes : Note → G → G → Type 0) (fault : ServeFault)
    (core : Session) (before : Io G) (after : Left G) : Type 0 where
  pub events : List Event
  pub last : Session
  pub unread : Option (List ℕ)
  pub unfed : List ℕ
  pub written : List ℕ
  pub runs : RunsWith Notes (moment core before.log) events (moment last after.log)
  pub consumes : Consumes before.input unread (fed_bytes events ++ unfed)
  pub appends : Appends before.output after.output written
  pub cause : IsCause fault (taken_bytes events) written

-- from this core on the session comes to its end, or a fault breaks it off
abbrev pub EndsOrBreaks : {G : Type 0} → (Notes : Note → G → G → Type 0)
    → Result Served ServeFault → (core : Session) → (before : Io G) → (after : Left G) → Type 0
EndsOrBreaks Notes (Ok served) core before after = Ends Notes served core before after
EndsOrBreaks Notes (Err fault) core before after = Breaks Notes fault core before after

-- so does a session that is over, where its writer's device holds what was written
abbrev pub Finishes : {O G : Type 0} → (Notes : Note → G → G → Type 0) → (O → Option (List ℕ))
    → (core : Session) → (before : Io G) → Finished O G → Type 0
Finishes Notes contents core before finished =
    EndsOrBreaks Notes finished.result core before
    (left (contents (device_of finished.sender)) finished.log)

-- the haggling leads to transmission, with no request outstanding, or to the session's end
abbrev pub Negotiates : Option Served → (from to : Session) → (before after : Io (Unit {0}))
    → Type 0
Negotiates None from to before after =
    Goes no_note from to before after × (to.outstanding ≡ []) × (to.out ≡ [])
Negotiates (Some served) from to before after =
    Ends no_note served from before (left after.output tt)

-- a whole session over an export: what was written is what goes out
pub record IsServed {G : Type 0} (Notes : Note → G → G → Type 0) (served : Served)
    (export : Export) (before : Io G) (after : Left G) : Type 0 where
  pub ends : Ends Notes served (session_of export (so_many 16)) before after
  pub requests : served.requests ≡ length (messages ends.events)
  pub goes_out : GoesOut export (so_many 16) ends.events (taken_bytes ends.events)

-- a session that a fault broke off: what was written is a beginning of what goes out
pub record IsBrokenOff {G : Type 0} (Notes : Note → G → G → Type 0) (fault : ServeFault)
    (export : Export) (before : Io G) (after : Left G) : Type 0 where
  pub breaks : Breaks Notes fault (session_of export (so_many 16)) before after
  pub unwritten : List ℕ
  pub goes_out : GoesOut export (so_many 16) breaks.events (breaks.written ++ unwritten)
