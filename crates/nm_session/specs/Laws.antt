-- What the definitions say of whole sessions.
use Rattle.std.specs.Prelude.{◌≡◌, ℕ, List, [], ◌∷◌, ◌++◌}
use Rattle.nm_wire.specs.declared.export.Export.{Export}
use Rattle.nm_session.specs.declared.limit.Limit.{Limit}
use Rattle.nm_session.specs.declared.outcome.Outcome.{Outcome}
use Rattle.nm_session.specs.declared.next.Next.{Next}
use Rattle.nm_session.specs.Event.{Event, Asked, Stopped, Answered, Runs, taken_bytes}
use Rattle.nm_session.specs.Reading.{ReadsOn, Reads}
use Rattle.nm_session.specs.Session.{Session, session_of}
use Rattle.nm_session.specs.Text.{GoesOut}

-- whatever happens in a session, the bytes that were taken and those that wait are those that go
-- out
abbrev pub SoFar : Type 0
SoFar =
    (export : Export) (limit : Limit) (events : List Event) (new : Session)
    → Runs (session_of export limit) events new
    → GoesOut export limit events (taken_bytes events ++ new.out)

-- from where no request is outstanding on, as in a new session, no request is answered twice
abbrev pub AnsweredOnce : Type 0
AnsweredOnce =
    (old : Session) (index : ℕ) (before between after : List Event)
    (outcome other : Outcome) (new : Session) → old.outstanding ≡ []
    → Runs old (before ++ Answered index outcome ∷ (between ++ Answered index other ∷ after)) new
    → ⊥

-- requests are read, or a header that ends the stream is found, and nothing else happens
abbrev pub AreReadings : List Event → Type 0
AreReadings [] = Unit {0}
AreReadings (Asked request judged ∷ events) = AreReadings events
AreReadings (Stopped fault ∷ events) = AreReadings events
AreReadings (_ ∷ events) = ⊥

-- some such events lead from one state to the other
pub record IsRead (old new : Session) : Type 0 where
  pub events : List Event
  pub are_readings : AreReadings events
  pub runs : Runs old events new

-- what `next` does is such events, whether it answers or runs out of memory
abbrev pub NextReads : Type 0
NextReads = (old : Session) (next : Next) (new : Session) → Reads old next new → IsRead old new

abbrev pub NextReadsOn : Type 0
NextReadsOn = (old new : Session) → ReadsOn old new → IsRead old new
