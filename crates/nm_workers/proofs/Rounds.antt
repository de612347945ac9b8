-- What the parts of a round do together.
use Rattle.std.proofs.Common.{◌≡◌, ℕ, List, [], Option, inl, inr, Result, Ok, Err, IfErr, IsErrAnd, refl, sym, ap, subst}
use Rattle.nm_mailbox.specs.declared.message.Message.{Message}
use Rattle.nm_session.specs.declared.serve_fault.ServeFault.{ServeFault}
use Rattle.nm_session.specs.declared.serve_fault.ServeFault.TheVariants as fault
use Rattle.nm_session.specs.declared.served.Served.{Served}
use Rattle.nm_session.specs.CalledValue.{CalledValue}
use Rattle.nm_session.specs.Io.{SendsOut, SendsPart}
use Rattle.nm_session.specs.Session.{IsFull, IsReading, Session}
use Rattle.nm_session.specs.Reading.{IsStarved}
use Rattle.nm_workers.specs.declared.round.NoRequest.{NoRequest}
use Rattle.nm_workers.specs.declared.round.NoRequest.TheVariants as why
use Rattle.nm_workers.specs.declared.round.Owner.{Owner}
use Rattle.nm_workers.specs.declared.round.Round.{Round}
use Rattle.nm_workers.specs.declared.round.ReadState.{ReadState}
use Rattle.nm_workers.specs.declared.round.ReadState.TheVariants as state
use Rattle.nm_workers.specs.Moving.{OwnerState, owner_state, Moves, BreaksOff, HasNoRequest, IsKnown, IsOverAt, Attends, Leads, state_of}
use Rattle.nm_workers.specs.Results.{Moment, moment, Note, ReadsWith}
use Rattle.nm_workers.proofs.Steps.{moves_on, breaks_on, stops, reads, sends, sends_part}

module _ {G : Type 0} {F : Note → G → G → Type 0} where
  -- a move, and then the rest of the session
  pub attends_on : (served : Served) (a b c : OwnerState G) → Moves F a b → Attends F served b c → Attends F served a c
  attends_on served a b c first second = record {
    moves = moves_on a b c first second.moves;
    sent = second.sent;
    known = second.known;
    is_known = second.is_known;
    is_over = second.is_over;
  }

  -- there is no memory, after a move
  pub stops_there : (found : ServeFault) → found ≡ fault.Memory → (a b : OwnerState G) → Moves F a b → BreaksOff F found a b
  stops_there found is a b moves =
      subst (λ (f : ServeFault). BreaksOff F f a b) (sym is) (stops fault.Memory tt a b moves)

-- what is said of a fault is said of it where it is handed on
pub handed_on : {T : Type 0} (result : Result T ServeFault) (found : ServeFault) (P : ServeFault → Type 0)
    → IsErrAnd result (λ handed. handed ≡ found) → P found → IfErr result P
handed_on (Ok done) found P same holds = absurd same
handed_on (Err handed) found P same holds = rw same holds

-- a fault that is handed on breaks the session off
pub led_off : {O G : Type 0} {F : Note → G → G → Type 0} (contents : O → Option (List ℕ))
    (result : Result Round ServeFault) (found : ServeFault) (old new : Owner O CalledValue G)
    → IsErrAnd result (λ handed. handed ≡ found)
    → BreaksOff F found (state_of contents old) (state_of contents new) → Leads F contents result old new
led_off contents (Ok round) found old new same breaks = absurd same
led_off contents (Err handed) found old new same breaks = rw same breaks

-- what is known of the client's bytes is not called more than it is
pub known_as : (next before : ReadState) (heard : List (Message CalledValue)) → (next ≡ state.Eof → before ≡ state.Eof)
    → IsKnown before heard → IsKnown next heard
known_as state.Idle before heard same known = tt
known_as state.Pending before heard same known = tt
known_as state.Eof before heard same known = subst (λ (i : ReadState). IsKnown i heard) (same refl) known

-- replies that go out are no requests
sent_reading : (core : Session) → IsReading core → IsReading (record core { out = [] })
sent_reading core reads = record { serving = reads.serving; free = reads.free }

sent_full : (core : Session) → IsFull core → IsFull (record core { out = [] })
sent_full core full = record {
  serving = full.serving;
  full = elim full.full [
    | inl many ↦ inl many
    | inr lacks ↦ inr (record { bytes = lacks.bytes; next = lacks.next; alone = lacks.alone; more = lacks.more })
  ];
}

sent_starved : (core : Session) → IsStarved core → IsStarved (record core { out = [] })
sent_starved core (inl haggles) = inl haggles
sent_starved core (inr (reads, none)) = inr (sent_reading core reads, none)

sent_none : (found : NoRequest) (core : Session) → HasNoRequest found core
    → HasNoRequest found (record core { out = [] })
sent_none why.Starved core starved = sent_starved core starved
sent_none why.Full core full = sent_full core full
sent_none why.Ended core ended = ended

pub no_request_sent : (found : NoRequest) (old new : Session) (output written : Option (List ℕ))
    → SendsOut old new output written → HasNoRequest found old → HasNoRequest found new
no_request_sent found old new output written sent none =
    subst (λ (s : Session). HasNoRequest found s) (sym sent.takes.new_is) (sent_none found old none)

module _ {G : Type 0} {F : Note → G → G → Type 0} where
  module _ (old : Moment G) (mid new : Session) (log : G) (heard : List (Message CalledValue)) (output written : Option (List ℕ))
      (read : ReadsWith F old (moment mid log)) where
    -- requests are handed out, and replies sent
    pub reads_sends : SendsOut mid new output written → Moves F (owner_state old heard output) (owner_state (moment new log) heard written)
    reads_sends sent = moves_on (owner_state old heard output) (owner_state (moment mid log) heard output) (owner_state (moment new log) heard written)
        (reads old (moment mid log) heard output read) (sends mid new log heard output written sent)

    pub reads_sends_part : (found : ServeFault) → SendsPart found mid new output written
        → BreaksOff F found (owner_state old heard output) (owner_state (moment new log) heard written)
    reads_sends_part found part = breaks_on found (owner_state old heard output) (owner_state (moment mid log) heard output)
        (owner_state (moment new log) heard written)
        (reads old (moment mid log) heard output read) (sends_part found mid new log heard output written part)

    -- and the session is over then
    pub over_there : (served : Served) (known : ReadState) → SendsOut mid new output written → IsKnown known heard
        → IsOverAt served new known → Attends F served (owner_state old heard output) (owner_state (moment new log) heard written)
    over_there served known sent is_known over = record {
      moves = reads_sends sent;
      sent = ap (λ (s : Session). s.out) sent.takes.new_is;
      known = known;
      is_known = is_known;
      is_over = over;
    }
