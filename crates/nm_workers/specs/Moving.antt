-- How a session moves on while its threads read and call its targets.
use Rattle.std.specs.Prelude.{◌≡◌, ℕ, ◌<◌, ◌⊎◌, List, [], ◌++◌, length, take}
use Rattle.std.specs.Prelude.{Option, Result, Ok, Err}
use Rattle.std.specs.Io.KnownBytes.{Appends}
use Rattle.nm_mailbox.specs.declared.message.Message.{Message}
use Rattle.nm_mailbox.specs.declared.message.Message.TheVariants as message
use Rattle.nm_mailbox.specs.declared.message.Piece.TheVariants.{Ended}
use Rattle.nm_mailbox.specs.Ends.{received_by}
use Rattle.nm_mailbox.specs.Messages.{pieces_of}
use Rattle.nm_replies.specs.Sending.{device_of}
use Rattle.nm_session.specs.declared.end.End.{End}
use Rattle.nm_session.specs.declared.end.End.TheVariants as end
use Rattle.nm_session.specs.declared.serve_fault.ServeFault.{ServeFault}
use Rattle.nm_session.specs.declared.serve_fault.ServeFault.TheVariants as fault
use Rattle.nm_session.specs.declared.served.Served.{Served}
use Rattle.nm_session.specs.CalledValue.{CalledValue}
use Rattle.nm_session.specs.Event.{Event, fed_bytes, taken_bytes}
use Rattle.nm_session.specs.Feeding.{IsEnded}
use Rattle.nm_session.specs.Serving.{CoreEnds}
use Rattle.nm_session.specs.Session.{Session, IsFull}
use Rattle.nm_session.specs.Reading.{IsStarved}
use Rattle.nm_workers.specs.declared.round.Round.{Round}
use Rattle.nm_workers.specs.declared.round.Round.TheVariants as round
use Rattle.nm_workers.specs.declared.round.ReadState.{ReadState}
use Rattle.nm_workers.specs.declared.round.ReadState.TheVariants as state
use Rattle.nm_workers.specs.declared.round.NoRequest.{NoRequest}
use Rattle.nm_workers.specs.declared.round.NoRequest.TheVariants as why
use Rattle.nm_workers.specs.declared.round.Owner.{Owner}
use Rattle.nm_workers.specs.Pieces.{bytes_of, HasEnded}
use Rattle.nm_workers.specs.Results.{Moment, moment, Note, RunsWith}

-- a session at one moment: its core and its log, the messages that its threads sent and that were
-- received, and what its writer holds, where it tells it
pub record OwnerState (G : Type 0) : Type 0 where
  pub core : Session
  pub log : G
  pub heard : List (Message CalledValue)
  pub output : Option (List ℕ)

-- the moment with these parts
abbrev pub owner_state : {G : Type 0} → Moment G → List (Message CalledValue) → Option (List ℕ)
    → OwnerState G
owner_state at heard output =
    record { core = at.core; log = at.log; heard = heard; output = output }

-- its core and its log
abbrev pub at_moment : {G : Type 0} → OwnerState G → Moment G
at_moment state = moment state.core state.log

-- from one moment to another: the bytes of the pieces that were received are fed, what is taken out
-- is written, and each request that is answered is so with a result of its own task
pub record Moves {G : Type 0} (Notes : Note → G → G → Type 0) (from to : OwnerState G)
    : Type 0 where
  pub events : List Event
  pub messages : List (Message CalledValue)
  pub runs : RunsWith Notes (at_moment from) events (at_moment to)
  pub heard : to.heard ≡ from.heard ++ messages
  pub fed_are : fed_bytes events ≡ bytes_of (pieces_of messages)
  pub appends : Appends from.output to.output (taken_bytes events)

-- what a fault leaves unwritten: nothing, or all but the first bytes of the last batch that was
-- taken out
abbrev pub IsCause : ServeFault → (taken written : List ℕ) → Type 0
IsCause fault.Memory taken written = written ≡ taken
IsCause fault.Read taken written = written ≡ taken
IsCause (fault.Write sent) taken written =
    (before : List ℕ) × (batch : List ℕ) × (taken ≡ before ++ batch)
    × (written ≡ before ++ take sent batch) × (sent < length batch)

-- from one moment to that at which a fault broke the session off; the last messages may be lost
pub record BreaksOff {G : Type 0} (Notes : Note → G → G → Type 0) (fault : ServeFault)
    (from to : OwnerState G) : Type 0 where
  pub events : List Event
  pub messages : List (Message CalledValue)
  pub lost : List (Message CalledValue)
  pub written : List ℕ
  pub runs : RunsWith Notes (at_moment from) events (at_moment to)
  pub heard : to.heard ≡ from.heard ++ (messages ++ lost)
  pub fed_are : fed_bytes events ≡ bytes_of (pieces_of messages)
  pub appends : Appends from.output to.output written
  pub cause : IsCause fault (taken_bytes events) written

-- why no further request is handed out: none is there as a whole, as many are outstanding as may
-- be, or nothing more is read
abbrev pub HasNoRequest : NoRequest → Session → Type 0
HasNoRequest why.Starved core = IsStarved core
HasNoRequest why.Full core = IsFull core
HasNoRequest why.Ended core = IsEnded core.stage

-- the client's bytes are only called ended where a message told it
abbrev pub IsKnown : ReadState → List (Message CalledValue) → Type 0
IsKnown state.Idle heard = Unit {0}
IsKnown state.Pending heard = Unit {0}
IsKnown state.Eof heard = HasEnded (pieces_of heard)

-- they are called ended where they were before, or where this message tells it
abbrev pub IsLearned : (next before : ReadState) → Message CalledValue → Type 0
IsLearned state.Idle before heard = Unit {0}
IsLearned state.Pending before heard = Unit {0}
IsLearned state.Eof before heard =
    (before ≡ state.Eof) ⊎ (heard ≡ message.Piece Ended)

-- the client's bytes have ended and no whole request is left; or the core came to this end
abbrev pub ComesTo : End → Session → ReadState → Type 0
ComesTo end.EndOfInput core known = IsStarved core × (known ≡ state.Eof)
ComesTo end.Disc core known = CoreEnds end.Disc core.stage
ComesTo end.Aborted core known = CoreEnds end.Aborted core.stage
ComesTo end.Protocol core known = CoreEnds end.Protocol core.stage

-- no request is outstanding, and the session came to its end
pub record IsOverAt (served : Served) (core : Session) (known : ReadState) : Type 0 where
  pub answered : core.outstanding ≡ []
  pub requests : served.requests ≡ core.count
  pub end_is : ComesTo served.end core known

-- requests are answered up to the session's end, and all replies are written
pub record Attends {G : Type 0} (Notes : Note → G → G → Type 0) (served : Served)
    (from to : OwnerState G) : Type 0 where
  pub moves : Moves Notes from to
  pub sent : to.core.out ≡ []
  pub known : ReadState
  pub is_known : IsKnown known to.heard
  pub is_over : IsOverAt served to.core known

module _ {G : Type 0} (Notes : Note → G → G → Type 0) where
  -- a round leads to the next one, or to the session's end
  abbrev pub IsRound : Round → OwnerState G → OwnerState G → Type 0
  IsRound (round.Continue next) from to = Moves Notes from to × IsKnown next to.heard
  IsRound (round.SwitchReader next) from to = Moves Notes from to × IsKnown next to.heard
  IsRound (round.Done served) from to = Attends Notes served from to

  -- requests are answered up to the session's end, or a fault breaks it off
  abbrev pub EndsAs : Result Served ServeFault → OwnerState G → OwnerState G → Type 0
  EndsAs (Ok served) from to = Attends Notes served from to
  EndsAs (Err fault) from to = BreaksOff Notes fault from to

-- an owner at one moment, where its writer's device holds this
abbrev pub state_of : {O G : Type 0} → (O → Option (List ℕ)) → Owner O CalledValue G → OwnerState G
state_of contents owner =
    owner_state (moment owner.core owner.log) (received_by owner.inbox)
    (contents (device_of owner.sender))

-- a round leads an owner on, or a fault breaks its session off
abbrev pub Leads : {O G : Type 0} → (Notes : Note → G → G → Type 0) → (O → Option (List ℕ))
    → Result Round ServeFault → (old new : Owner O CalledValue G) → Type 0
Leads Notes contents (Ok round) old new =
    IsRound Notes round (state_of contents old) (state_of contents new)
Leads Notes contents (Err fault) old new =
    BreaksOff Notes fault (state_of contents old) (state_of contents new)
