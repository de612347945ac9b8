-- Moves that follow one another are one move, also where the last one breaks off.
use Rattle.std.proofs.Common.{◌≡◌, ℕ, List, [], ◌∷◌, ◌++◌, take, Option, refl, sym, ap, ◌∙◌, subst, append_assoc, append-nil, inl, inr}
use Rattle.std.specs.Io.KnownBytes.{Appends}
use Rattle.std.proofs.KnownBytes.{Appends-trans, Appends-nil}
use Rattle.nm_mailbox.proofs.Rules.{pieces_append}
use Rattle.nm_mailbox.specs.declared.message.Message.{Message}
use Rattle.nm_mailbox.specs.declared.message.Message.TheVariants as message
use Rattle.nm_mailbox.specs.declared.message.Piece.{Piece}
use Rattle.nm_mailbox.specs.declared.message.Piece.TheVariants as piece
use Rattle.nm_mailbox.specs.Messages.{pieces_of}
use Rattle.nm_session.proofs.Events.{fed-append, taken-append}
use Rattle.nm_session.specs.declared.serve_fault.ServeFault.{ServeFault}
use Rattle.nm_session.specs.declared.serve_fault.ServeFault.TheVariants as fault
use Rattle.nm_session.specs.CalledValue.{CalledValue}
use Rattle.nm_session.specs.Event.{Event, Fed, Asked, Stopped, Answered, Took, fed_bytes, taken_bytes}
use Rattle.nm_session.specs.Laws.{AreReadings}
use Rattle.nm_session.specs.Io.{SendsOut, SendsPart}
use Rattle.nm_session.specs.Session.{Session}
use Rattle.nm_workers.specs.declared.round.ReadState.{ReadState}
use Rattle.nm_workers.specs.declared.round.ReadState.TheVariants as state
use Rattle.nm_workers.specs.Hearing.{Hears, IsCausedBy, Settles, SettlesJob}
use Rattle.nm_workers.specs.Moving.{OwnerState, at_moment, owner_state, Moves, BreaksOff, IsCause, IsKnown, IsLearned}
use Rattle.nm_workers.specs.JobValue.{JobValue, called_for}
use Rattle.nm_workers.specs.Pieces.{bytes_of, HasEnded}
use Rattle.nm_workers.specs.Results.{Moment, moment, Note, ReadsWith}
use Rattle.nm_workers.proofs.ResultRuns.{runs_with-append}

pub bytes-append : (xs ys : List Piece) → bytes_of (xs ++ ys) ≡ bytes_of xs ++ bytes_of ys
bytes-append [] ys = refl
bytes-append (piece.Bytes bytes ∷ xs) ys =
    ap (λ (rest : List ℕ). bytes.items ++ rest) (bytes-append xs ys)
    ∙ sym (append_assoc bytes.items (bytes_of xs) (bytes_of ys))
bytes-append (piece.Ended ∷ xs) ys = bytes-append xs ys
bytes-append (piece.Failed ∷ xs) ys = bytes-append xs ys

pub heard-append : (xs ys : List (Message CalledValue))
    → bytes_of (pieces_of (xs ++ ys)) ≡ bytes_of (pieces_of xs) ++ bytes_of (pieces_of ys)
heard-append xs ys = ap bytes_of (pieces_append xs ys) ∙ bytes-append (pieces_of xs) (pieces_of ys)

-- two lists that are the same are so in a row
pub in_a_row : (a b c d : List ℕ) → a ≡ c → b ≡ d → a ++ b ≡ c ++ d
in_a_row a b c d first second =
    ap (λ (xs : List ℕ). xs ++ b) first ∙ ap (λ (xs : List ℕ). c ++ xs) second

fed_on : (xs ys : List Event) (ms ns : List (Message CalledValue)) → fed_bytes xs ≡ bytes_of (pieces_of ms)
    → fed_bytes ys ≡ bytes_of (pieces_of ns) → fed_bytes (xs ++ ys) ≡ bytes_of (pieces_of (ms ++ ns))
fed_on xs ys ms ns first second =
    fed-append xs ys
    ∙ in_a_row (fed_bytes xs) (fed_bytes ys) (bytes_of (pieces_of ms)) (bytes_of (pieces_of ns)) first second
    ∙ sym (heard-append ms ns)

module _ {G : Type 0} {F : Note → G → G → Type 0} where
  -- one move after the other
  pub moves_on : (a b c : OwnerState G) → Moves F a b → Moves F b c → Moves F a c
  moves_on a b c first second = record {
    events = first.events ++ second.events;
    messages = first.messages ++ second.messages;
    runs = runs_with-append F (at_moment a) (at_moment b) (at_moment c) first.events second.events first.runs second.runs;
    heard = second.heard ∙ ap (λ (heard : List (Message CalledValue)). heard ++ second.messages) first.heard
        ∙ append_assoc a.heard first.messages second.messages;
    fed_are = fed_on first.events second.events first.messages second.messages first.fed_are second.fed_are;
    appends = subst (Appends a.output c.output) (sym (taken-append first.events second.events))
        (Appends-trans a.output b.output c.output (taken_bytes first.events) (taken_bytes second.events)
        first.appends second.appends);
  }

-- a fault leaves the same unwritten after more bytes that were taken out and written
pub cause_on : (found : ServeFault) (before taken written : List ℕ)
    → IsCause found taken written → IsCause found (before ++ taken) (before ++ written)
cause_on fault.Memory before taken written cause = ap (λ (rest : List ℕ). before ++ rest) cause
cause_on fault.Read before taken written cause = ap (λ (rest : List ℕ). before ++ rest) cause
cause_on (fault.Write sent) before taken written cause = (
  before ++ cause.0,
  cause.1,
  ap (λ (rest : List ℕ). before ++ rest) cause.2 ∙ sym (append_assoc before cause.0 cause.1),
  ap (λ (rest : List ℕ). before ++ rest) cause.3
      ∙ sym (append_assoc before cause.0 (take sent cause.1)),
  cause.4,
)

module _ {G : Type 0} {F : Note → G → G → Type 0} where
  -- a move, and then a break
  pub breaks_on : (found : ServeFault) (a b c : OwnerState G) → Moves F a b → BreaksOff F found b c
      → BreaksOff F found a c
  breaks_on found a b c first second = record {
    events = first.events ++ second.events;
    messages = first.messages ++ second.messages;
    lost = second.lost;
    written = taken_bytes first.events ++ second.written;
    runs = runs_with-append F (at_moment a) (at_moment b) (at_moment c) first.events second.events first.runs second.runs;
    heard = second.heard
        ∙ ap (λ (heard : List (Message CalledValue)). heard ++ (second.messages ++ second.lost)) first.heard
        ∙ append_assoc a.heard first.messages (second.messages ++ second.lost)
        ∙ ap (λ (more : List (Message CalledValue)). a.heard ++ more)
        (sym (append_assoc first.messages second.messages second.lost));
    fed_are = fed_on first.events second.events first.messages second.messages first.fed_are second.fed_are;
    appends = Appends-trans a.output b.output c.output (taken_bytes first.events) second.written
        first.appends second.appends;
    cause = subst (λ (all : List ℕ). IsCause found all (taken_bytes first.events ++ second.written))
        (sym (taken-append first.events second.events))
        (cause_on found (taken_bytes first.events) (taken_bytes second.events) second.written second.cause);
  }

  -- no move at all
  pub moves_nowhere : (a : OwnerState G) → Moves F a a
  moves_nowhere a = record {
    events = [];
    messages = [];
    runs = refl;
    heard = sym (append-nil a.heard);
    fed_are = refl;
    appends = Appends-nil a.output;
  }

  -- nor where the core stays
  pub stays : (old new : Moment G) (heard : List (Message CalledValue)) (output : Option (List ℕ)) → new ≡ old
      → Moves F (owner_state old heard output) (owner_state new heard output)
  stays old new heard output same =
      subst (λ (at : Moment G). Moves F (owner_state old heard output) (owner_state at heard output))
      (sym same) (moves_nowhere (owner_state old heard output))

-- a fault that leaves nothing unwritten
abbrev pub IsQuiet : ServeFault → Type 0
IsQuiet fault.Memory = Unit {0}
IsQuiet fault.Read = Unit {0}
IsQuiet (fault.Write sent) = ⊥

quiet_cause : (found : ServeFault) (written : List ℕ) → IsQuiet found → IsCause found written written
quiet_cause fault.Memory written quiet = refl
quiet_cause fault.Read written quiet = refl
quiet_cause (fault.Write sent) written quiet = absurd quiet

module _ {G : Type 0} {F : Note → G → G → Type 0} where
  -- a move, and a fault there
  pub stops : (found : ServeFault) → IsQuiet found → (a b : OwnerState G) → Moves F a b → BreaksOff F found a b
  stops found quiet a b moves = record {
    events = moves.events;
    messages = moves.messages;
    lost = [];
    written = taken_bytes moves.events;
    runs = moves.runs;
    heard = moves.heard ∙ ap (λ (more : List (Message CalledValue)). a.heard ++ more)
        (sym (append-nil moves.messages));
    fed_are = moves.fed_are;
    appends = moves.appends;
    cause = quiet_cause found (taken_bytes moves.events) quiet;
  }

-- readings bring no bytes and take none out
readings_fed : (events : List Event) → AreReadings events → fed_bytes events ≡ []
readings_fed [] are = refl
readings_fed (Fed piece ∷ events) are = absurd are
readings_fed (Asked request judged ∷ events) are = readings_fed events are
readings_fed (Stopped found ∷ events) are = readings_fed events are
readings_fed (Answered index outcome ∷ events) are = absurd are
readings_fed (Took bytes ∷ events) are = absurd are

readings_taken : (events : List Event) → AreReadings events → taken_bytes events ≡ []
readings_taken [] are = refl
readings_taken (Fed piece ∷ events) are = absurd are
readings_taken (Asked request judged ∷ events) are = readings_taken events are
readings_taken (Stopped found ∷ events) are = readings_taken events are
readings_taken (Answered index outcome ∷ events) are = absurd are
readings_taken (Took bytes ∷ events) are = absurd are

module _ {G : Type 0} {F : Note → G → G → Type 0} where
  -- requests that are read are a move
  pub reads : (old new : Moment G) (heard : List (Message CalledValue)) (output : Option (List ℕ))
      → ReadsWith F old new → Moves F (owner_state old heard output) (owner_state new heard output)
  reads old new heard output read = record {
    events = read.events;
    messages = [];
    runs = read.runs;
    heard = sym (append-nil heard);
    fed_are = readings_fed read.events read.are_readings;
    appends = subst (Appends output output) (sym (readings_taken read.events read.are_readings))
        (Appends-nil output);
  }

  -- replies are taken out and written
  pub sends : (old new : Session) (log : G) (heard : List (Message CalledValue)) (output written : Option (List ℕ))
      → SendsOut old new output written
      → Moves F (owner_state (moment old log) heard output) (owner_state (moment new log) heard written)
  sends old new log heard output written sent = record {
    events = Took old.out ∷ [];
    messages = [];
    runs = (moment new log, (sent.takes, refl), refl);
    heard = sym (append-nil heard);
    fed_are = refl;
    appends = subst (Appends output written) (sym (append-nil old.out)) sent.appends;
  }

  -- not all of them are written
  pub sends_part : (found : ServeFault) (old new : Session) (log : G) (heard : List (Message CalledValue))
      (output written : Option (List ℕ)) → SendsPart found old new output written
      → BreaksOff F found (owner_state (moment old log) heard output) (owner_state (moment new log) heard written)
  sends_part fault.Memory old new log heard output written part = absurd part
  sends_part fault.Read old new log heard output written part = absurd part
  sends_part (fault.Write sent) old new log heard output written part = record {
    events = Took old.out ∷ [];
    messages = [];
    lost = [];
    written = take sent old.out;
    runs = (moment new log, (part.0, refl), refl);
    heard = sym (append-nil heard);
    fed_are = refl;
    appends = part.1;
    cause = ([], old.out, append-nil old.out, refl, part.2);
  }

  -- a message that is taken is a move
  pub hears : (old new : Moment G) (one : Message CalledValue) (heard : List (Message CalledValue))
      (output : Option (List ℕ)) → Hears F old one new
      → Moves F (owner_state old heard output) (owner_state new (heard ++ one ∷ []) output)
  hears old new (message.Piece (piece.Bytes bytes)) heard output is = record {
    events = Fed bytes.items ∷ [];
    messages = message.Piece (piece.Bytes bytes) ∷ [];
    runs = (new, is, refl);
    heard = refl;
    fed_are = refl;
    appends = Appends-nil output;
  }
  hears old new (message.Piece piece.Ended) heard output is = record {
    events = [];
    messages = message.Piece piece.Ended ∷ [];
    runs = is;
    heard = refl;
    fed_are = refl;
    appends = Appends-nil output;
  }
  hears old new (message.Piece piece.Failed) heard output is = absurd is
  hears old new (message.Outcome called) heard output (inl answers) = record {
    events = Answered called.index answers.outcome ∷ [];
    messages = message.Outcome called ∷ [];
    runs = (new, answers.own, refl);
    heard = refl;
    fed_are = refl;
    appends = Appends-nil output;
  }
  hears old new (message.Outcome called) heard output (inr passes) = record {
    events = [];
    messages = message.Outcome called ∷ [];
    runs = passes.unchanged;
    heard = refl;
    fed_are = refl;
    appends = Appends-nil output;
  }

  -- what came of the job that was held back is a move
  settled : (called : CalledValue) (old new : Moment G) (heard : List (Message CalledValue)) (output : Option (List ℕ))
      → Settles F old called new → Moves F (owner_state old heard output) (owner_state new heard output)
  settled called old new heard output (inl answers) = record {
    events = Answered called.index answers.outcome ∷ [];
    messages = [];
    runs = (new, answers.own, refl);
    heard = sym (append-nil heard);
    fed_are = refl;
    appends = Appends-nil output;
  }
  settled called old new heard output (inr passes) = stays old new heard output passes.unchanged

  pub settles : (old new : Moment G) (job : Option JobValue) (heard : List (Message CalledValue))
      (output : Option (List ℕ)) → SettlesJob F old job new → Moves F (owner_state old heard output) (owner_state new heard output)
  settles old new job heard output done =
      settled (called_for done.job done.outcome) old new heard output done.settles

message_cause : (found : ServeFault) (one : Message CalledValue) → IsCausedBy found one → IsCause found [] []
message_cause fault.Memory one is = refl
message_cause fault.Read one is = refl
message_cause (fault.Write sent) one is = absurd is

module _ {G : Type 0} {F : Note → G → G → Type 0} where
  -- a message that breaks the session off is lost
  pub loses : (found : ServeFault) (old new : Moment G) (one : Message CalledValue) (heard : List (Message CalledValue))
      (output : Option (List ℕ)) → IsCausedBy found one → new ≡ old
      → BreaksOff F found (owner_state old heard output) (owner_state new (heard ++ one ∷ []) output)
  loses found old new one heard output is same = record {
    events = [];
    messages = [];
    lost = one ∷ [];
    written = [];
    runs = same;
    heard = refl;
    fed_are = refl;
    appends = Appends-nil output;
    cause = message_cause found one is;
  }

-- what was known of the client's bytes stays known
ended_on : (heard more : List (Message CalledValue)) → HasEnded (pieces_of heard)
    → HasEnded (pieces_of (heard ++ more))
ended_on heard more ended = record {
  before = ended.before;
  after = ended.after ++ pieces_of more;
  pieces_are = pieces_append heard more
      ∙ ap (λ (pieces : List Piece). pieces ++ pieces_of more) ended.pieces_are
      ∙ append_assoc ended.before (piece.Ended ∷ ended.after) (pieces_of more);
}

-- and a message tells the rest
pub learns : (next before : ReadState) (heard : List (Message CalledValue)) (one : Message CalledValue)
    → IsLearned next before one → IsKnown before heard → IsKnown next (heard ++ one ∷ [])
learns state.Idle before heard one is known = tt
learns state.Pending before heard one is known = tt
learns state.Eof before heard one (inl same) known =
    ended_on heard (one ∷ []) (subst (λ (i : ReadState). IsKnown i heard) same known)
learns state.Eof before heard one (inr told) known = record {
  before = pieces_of heard;
  after = [];
  pieces_are = pieces_append heard (one ∷ [])
      ∙ ap (λ (m : Message CalledValue). pieces_of heard ++ pieces_of (m ∷ [])) told;
}

-- the same, of all messages that were received by then
pub learns_at : (one : Message CalledValue) (heard all : List (Message CalledValue)) → all ≡ heard ++ one ∷ []
    → (next before : ReadState) → IsLearned next before one → IsKnown before heard → IsKnown next all
learns_at one heard all is_all next before is known =
    subst (IsKnown next) (sym is_all) (learns next before heard one is known)

module _ {G : Type 0} {F : Note → G → G → Type 0} where
  module _ (old new : Moment G) (one : Message CalledValue) (heard all : List (Message CalledValue))
      (is_all : all ≡ heard ++ one ∷ []) where
    -- the same, of all messages that were received by then
    pub hears_at : (output : Option (List ℕ)) → Hears F old one new → Moves F (owner_state old heard output) (owner_state new all output)
    hears_at output is = subst (λ (h : List (Message CalledValue)). Moves F (owner_state old heard output) (owner_state new h output))
        (sym is_all) (hears old new one heard output is)

    pub loses_at : (found : ServeFault) (output : Option (List ℕ)) → IsCausedBy found one → new ≡ old
        → BreaksOff F found (owner_state old heard output) (owner_state new all output)
    loses_at found output is same =
        subst (λ (h : List (Message CalledValue)). BreaksOff F found (owner_state old heard output) (owner_state new h output))
        (sym is_all) (loses found old new one heard output is same)

  -- no message comes any more
  pub stops_hearing : (at : Moment G) (heard all : List (Message CalledValue)) (output : Option (List ℕ)) → all ≡ heard
      → BreaksOff F fault.Read (owner_state at heard output) (owner_state at all output)
  stops_hearing at heard all output same =
      subst (λ (h : List (Message CalledValue)). BreaksOff F fault.Read (owner_state at heard output) (owner_state at h output))
      (sym same) (stops fault.Read tt (owner_state at heard output) (owner_state at heard output)
      (moves_nowhere (owner_state at heard output)))
