-- What a session's threads did together, and what of it goes out.
use Rattle.std.proofs.Common.{◌≡◌, ℕ, ◌+◌, List, [], ◌∷◌, ◌++◌, length, take, drop, Option, Result, Ok, Err, refl, sym, ap, ◌∙◌, subst, append_assoc, append-nil, take-append-drop, arith}
use Rattle.std.specs.Io.KnownBytes.{Appends, Consumes, IsAtEnd}
use Rattle.std.proofs.KnownBytes.{Appends-trans, Appends-nil, Consumes-trans, Consumes-nil}
use Rattle.nm_mailbox.specs.declared.message.Message.{Message}
use Rattle.nm_mailbox.specs.declared.message.Piece.{Piece}
use Rattle.nm_mailbox.specs.declared.message.Piece.TheVariants as piece
use Rattle.nm_mailbox.specs.Messages.{pieces_of, IsBeginning}
use Rattle.nm_session.proofs.Events.{fed-append, taken-append}
use Rattle.nm_session.specs.declared.end.End.{End}
use Rattle.nm_session.specs.declared.end.End.TheVariants as end
use Rattle.nm_session.specs.declared.serve_fault.ServeFault.{ServeFault}
use Rattle.nm_session.specs.declared.serve_fault.ServeFault.TheVariants as fault
use Rattle.nm_session.specs.declared.served.Served.{Served}
use Rattle.nm_session.specs.declared.stage.Stage.{Stage}
use Rattle.nm_session.specs.declared.stage.Stage.TheVariants as stage
use Rattle.nm_session.specs.CalledValue.{CalledValue}
use Rattle.nm_session.specs.Event.{Event, Fed, Asked, Stopped, Answered, Took, Runs, fed_bytes, taken_bytes, messages}
use Rattle.nm_session.specs.Feeding.{FeedsAt}
use Rattle.nm_session.specs.Laws.{SoFar}
use Rattle.nm_session.specs.Serving.{IsEnd}
use Rattle.nm_session.specs.Session.{Session, session_of, so_many}
use Rattle.nm_session.specs.Text.{GoesOut}
use Rattle.nm_wire.specs.declared.export.Export.{Export}
use Rattle.nm_workers.specs.declared.round.ReadState.{ReadState}
use Rattle.nm_workers.specs.Moving.{owner_state, Attends, BreaksOff, ComesTo, IsCause, IsKnown}
use Rattle.nm_workers.specs.Pieces.{bytes_of, HasEnded}
use Rattle.nm_workers.specs.Reading.{HasRead}
use Rattle.nm_workers.specs.Serving.{Io, io, Left, left, Goes, Ends, Breaks, EndsOrBreaks, IsServed, IsBrokenOff}
use Rattle.nm_workers.specs.Results.{moment, Note, no_note}
use Rattle.nm_workers.proofs.ResultRuns.{runs_with-append, runs_of, unnoted_with}
use Rattle.nm_workers.proofs.Steps.{bytes-append, heard-append, cause_on}

module _ {G : Type 0} {F : Note → G → G → Type 0} where
  -- one part of a session after the other
  pub goes_on : (a b c : Session) (u v w : Io G) → Goes F a b u v → Goes F b c v w → Goes F a c u w
  goes_on a b c u v w first second = record {
    events = first.events ++ second.events;
    runs = runs_with-append F (moment a u.log) (moment b v.log) (moment c w.log) first.events second.events first.runs second.runs;
    consumes = subst (Consumes u.input w.input) (sym (fed-append first.events second.events))
        (Consumes-trans u.input v.input w.input (fed_bytes first.events) (fed_bytes second.events)
        first.consumes second.consumes);
    appends = subst (Appends u.output w.output) (sym (taken-append first.events second.events))
        (Appends-trans u.output v.output w.output (taken_bytes first.events) (taken_bytes second.events)
        first.appends second.appends);
  }

-- fed bytes, and what follows them unfed
fed_on : (xs ys : List Event) (unfed : List ℕ) → fed_bytes xs ++ (fed_bytes ys ++ unfed) ≡ fed_bytes (xs ++ ys) ++ unfed
fed_on xs ys unfed = sym (append_assoc (fed_bytes xs) (fed_bytes ys) unfed)
    ∙ ap (λ (all : List ℕ). all ++ unfed) (sym (fed-append xs ys))

module _ {G : Type 0} {F : Note → G → G → Type 0} where
  pub ends_on : (served : Served) (a b : Session) (u v : Io G) (after : Left G) → Goes F a b u v
      → Ends F served b v after → Ends F served a u after
  ends_on served a b u v after first second = record {
    events = first.events ++ second.events;
    last = second.last;
    unread = second.unread;
    unfed = second.unfed;
    runs = runs_with-append F (moment a u.log) (moment b v.log) (moment second.last after.log) first.events second.events first.runs second.runs;
    consumes = subst (Consumes u.input second.unread) (fed_on first.events second.events second.unfed)
        (Consumes-trans u.input v.input second.unread (fed_bytes first.events) (fed_bytes second.events ++ second.unfed)
        first.consumes second.consumes);
    all_fed = second.all_fed;
    appends = subst (Appends u.output after.output) (sym (taken-append first.events second.events))
        (Appends-trans u.output v.output after.output (taken_bytes first.events) (taken_bytes second.events)
        first.appends second.appends);
    answered = second.answered;
    sent = second.sent;
    requests = second.requests;
    end_is = second.end_is;
  }

  pub breaks_on : (found : ServeFault) (a b : Session) (u v : Io G) (after : Left G) → Goes F a b u v
      → Breaks F found b v after → Breaks F found a u after
  breaks_on found a b u v after first second = record {
    events = first.events ++ second.events;
    last = second.last;
    unread = second.unread;
    unfed = second.unfed;
    written = taken_bytes first.events ++ second.written;
    runs = runs_with-append F (moment a u.log) (moment b v.log) (moment second.last after.log) first.events second.events first.runs second.runs;
    consumes = subst (Consumes u.input second.unread) (fed_on first.events second.events second.unfed)
        (Consumes-trans u.input v.input second.unread (fed_bytes first.events) (fed_bytes second.events ++ second.unfed)
        first.consumes second.consumes);
    appends = Appends-trans u.output v.output after.output (taken_bytes first.events) second.written
        first.appends second.appends;
    cause = subst (λ (all : List ℕ). IsCause found all (taken_bytes first.events ++ second.written))
        (sym (taken-append first.events second.events))
        (cause_on found (taken_bytes first.events) (taken_bytes second.events) second.written second.cause);
  }

  pub ends_or_breaks_on : (result : Result Served ServeFault) (a b : Session) (u v : Io G) (after : Left G)
      → Goes F a b u v → EndsOrBreaks F result b v after → EndsOrBreaks F result a u after
  ends_or_breaks_on (Ok served) a b u v after first second = ends_on served a b u v after first second
  ends_or_breaks_on (Err found) a b u v after first second = breaks_on found a b u v after first second

  -- a session that broke off before anything happened
  pub breaks_at_once : (core : Session) (bytes output : Option (List ℕ)) (log : G)
      → Breaks F fault.Memory core (io bytes output log) (left output log)
  breaks_at_once core bytes output log = record {
    events = [];
    last = core;
    unread = bytes;
    unfed = [];
    written = [];
    runs = refl;
    consumes = Consumes-nil bytes;
    appends = Appends-nil output;
    cause = refl;
  }

-- the first of two lists that are none together is none
second_none : {X : Type 0} (xs ys : List X) → xs ++ ys ≡ [] → ys ≡ []
second_none [] ys none = none
second_none (x ∷ xs) ys none = absurd (cc)

module _ {G : Type 0} (bytes unread output after : Option (List ℕ)) (log later : G) (pieces : List Piece)
    (core last : Session) (heard : List (Message CalledValue))
    (read : HasRead bytes unread pieces) (begins : IsBeginning (pieces_of heard) pieces) where
  -- what was read is what the messages told, and what they did not
  read_bytes : bytes_of pieces ++ read.unsent ≡ bytes_of (pieces_of heard) ++ (bytes_of begins.0 ++ read.unsent)
  read_bytes = ap (λ (all : List Piece). bytes_of all ++ read.unsent) begins.1
      ∙ ap (λ (all : List ℕ). all ++ read.unsent) (bytes-append (pieces_of heard) begins.0)
      ∙ append_assoc (bytes_of (pieces_of heard)) (bytes_of begins.0) read.unsent

  -- once the end was told, nothing is left
  told_end : HasEnded (pieces_of heard) → IsAtEnd unread × (bytes_of begins.0 ++ read.unsent ≡ [])
  told_end ended =
      let all = read.at_end ended.before (ended.after ++ begins.0)
      (begins.1 ∙ ap (λ (front : List Piece). front ++ begins.0) ended.pieces_are
      ∙ append_assoc ended.before (piece.Ended ∷ ended.after) begins.0) in (
        all.0,
        ap (λ (rest : List Piece). bytes_of rest ++ read.unsent) (second_none ended.after begins.0 all.1) ∙ all.2,
      )

  come_to : (told : End) (known : ReadState) → IsKnown known heard → ComesTo told last known
      → IsEnd told last unread × (told ≡ end.EndOfInput → bytes_of begins.0 ++ read.unsent ≡ [])
  come_to end.EndOfInput known is_known comes =
      let all = told_end (subst (λ (i : ReadState). IsKnown i heard) comes.1 is_known) in
      ((comes.0, all.0), λ same. all.1)
  come_to end.Disc known is_known comes = (comes, λ same. absurd (cc))
  come_to end.Aborted known is_known comes = (comes, λ same. absurd (cc))
  come_to end.Protocol known is_known comes = (comes, λ same. absurd (cc))

  -- requests were answered to the end
  pub ends_there : {F : Note → G → G → Type 0} → (served : Served)
      → Attends F served (owner_state (moment core log) [] output) (owner_state (moment last later) heard after)
      → Ends F served core (io bytes output log) (left after later)
  ends_there served attends =
      let to = come_to served.end attends.known attends.is_known attends.is_over.end_is in
      record {
        events = attends.moves.events;
        last = last;
        unread = unread;
        unfed = bytes_of begins.0 ++ read.unsent;
        runs = attends.moves.runs;
        consumes = subst (Consumes bytes unread) (read_bytes
            ∙ ap (λ (front : List ℕ). front ++ (bytes_of begins.0 ++ read.unsent))
            (ap (λ (all : List (Message CalledValue)). bytes_of (pieces_of all)) attends.moves.heard
            ∙ sym attends.moves.fed_are)) read.consumes;
        all_fed = to.1;
        appends = attends.moves.appends;
        answered = attends.is_over.answered;
        sent = attends.sent;
        requests = attends.is_over.requests;
        end_is = to.0;
      }

  -- a fault broke the session off
  pub breaks_there : {F : Note → G → G → Type 0} → (found : ServeFault)
      → BreaksOff F found (owner_state (moment core log) [] output) (owner_state (moment last later) heard after)
      → Breaks F found core (io bytes output log) (left after later)
  breaks_there found breaks = record {
    events = breaks.events;
    last = last;
    unread = unread;
    unfed = bytes_of (pieces_of breaks.lost) ++ (bytes_of begins.0 ++ read.unsent);
    written = breaks.written;
    runs = breaks.runs;
    consumes = subst (Consumes bytes unread) (read_bytes
        ∙ ap (λ (front : List ℕ). front ++ (bytes_of begins.0 ++ read.unsent))
        (ap (λ (all : List (Message CalledValue)). bytes_of (pieces_of all)) breaks.heard
        ∙ heard-append breaks.messages breaks.lost
        ∙ ap (λ (front : List ℕ). front ++ bytes_of (pieces_of breaks.lost)) (sym breaks.fed_are))
        ∙ append_assoc (fed_bytes breaks.events) (bytes_of (pieces_of breaks.lost)) (bytes_of begins.0 ++ read.unsent))
        read.consumes;
    appends = breaks.appends;
    cause = breaks.cause;
  }

-- a piece that is fed is no request
fed_count : (at : Stage) (old new : Session) (bytes : List ℕ) → FeedsAt at old bytes new → new.count ≡ old.count
fed_count stage.Haggling old new bytes feeds = ap (λ (s : Session). s.count) feeds.new_is
fed_count stage.Serving old new bytes feeds = ap (λ (s : Session). s.count) feeds
fed_count (stage.Ended by) old new bytes feeds = absurd feeds

-- a core counts the requests that it read
counted : (old new : Session) (events : List Event) → Runs old events new
    → new.count ≡ old.count + length (messages events)
counted old new [] runs = omega (arith, ap (λ (s : Session). s.count) runs)
counted old new (Fed bytes ∷ events) runs =
    omega (arith, fed_count old.stage old runs.0 bytes runs.1, counted runs.0 new events runs.2)
counted old new (Asked request judged ∷ events) runs =
    omega (arith, ap (λ (s : Session). s.count) runs.1.new_is, counted runs.0 new events runs.2)
counted old new (Stopped found ∷ events) runs =
    omega (arith, ap (λ (s : Session). s.count) runs.1.new_is, counted runs.0 new events runs.2)
counted old new (Answered index outcome ∷ events) runs =
    omega (arith, ap (λ (s : Session). s.count) runs.1.new_is, counted runs.0 new events runs.2)
counted old new (Took bytes ∷ events) runs =
    omega (arith, ap (λ (s : Session). s.count) runs.1.new_is, counted runs.0 new events runs.2)

-- what was written is a beginning of what was taken out
unwritten_of : (found : ServeFault) (all written : List ℕ) → IsCause found all written
    → (rest : List ℕ) × (all ≡ written ++ rest)
unwritten_of fault.Memory all written cause = ([], sym cause ∙ sym (append-nil written))
unwritten_of fault.Read all written cause = ([], sym cause ∙ sym (append-nil written))
unwritten_of (fault.Write sent) all written cause = (
  drop sent cause.1,
  cause.2 ∙ ap (λ (batch : List ℕ). cause.0 ++ batch) (sym (take-append-drop sent cause.1))
      ∙ sym (append_assoc cause.0 (take sent cause.1) (drop sent cause.1))
      ∙ ap (λ (front : List ℕ). front ++ drop sent cause.1) (sym cause.3),
)

module _ {G : Type 0} {F : Note → G → G → Type 0} where
  module _ (so_far : SoFar) (export : Export) (before : Io G) (after : Left G) where
    -- a whole session that came to its end
    pub whole : (served : Served) → Ends F served (session_of export (so_many 16)) before after
        → IsServed F served export before after
    whole served ends =
        let runs = runs_of F (moment (session_of export (so_many 16)) before.log) (moment ends.last after.log)
        ends.events ends.runs in
        record {
          ends = ends;
          requests = ends.requests
              ∙ omega (arith, counted (session_of export (so_many 16)) ends.last ends.events runs);
          goes_out = subst (GoesOut export (so_many 16) ends.events)
              (ap (λ (rest : List ℕ). taken_bytes ends.events ++ rest) ends.sent ∙ append-nil (taken_bytes ends.events))
              (so_far export (so_many 16) ends.events ends.last runs);
        }

    -- a session that broke off
    pub broken : (found : ServeFault) → Breaks F found (session_of export (so_many 16)) before after
        → IsBrokenOff F found export before after
    broken found breaks =
        let rest = unwritten_of found (taken_bytes breaks.events) breaks.written breaks.cause in
        record {
          breaks = breaks;
          unwritten = rest.0 ++ breaks.last.out;
          goes_out = subst (GoesOut export (so_many 16) breaks.events)
              (ap (λ (front : List ℕ). front ++ breaks.last.out) rest.1
              ∙ append_assoc breaks.written rest.0 breaks.last.out)
              (so_far export (so_many 16) breaks.events breaks.last
              (runs_of F (moment (session_of export (so_many 16)) before.log) (moment breaks.last after.log)
              breaks.events breaks.runs));
        }

  module _ (core : Session) (u : Io (Unit {0})) (log : G) where
    -- the haggling, after which nothing is noted yet
    pub haggled : (to : Session) (v : Io (Unit {0})) → Goes no_note core to u v
        → Goes F core to (io u.input u.output log) (io v.input v.output log)
    haggled to v goes = record {
      events = goes.events;
      runs = unnoted_with F (moment core u.log) (moment to v.log) log goes.events goes.runs;
      consumes = goes.consumes;
      appends = goes.appends;
    }

    -- a session that ends in it
    pub haggled_ends : (served : Served) (after : Left (Unit {0})) → Ends no_note served core u after
        → Ends F served core (io u.input u.output log) (left after.output log)
    haggled_ends served after ends = record {
      events = ends.events;
      last = ends.last;
      unread = ends.unread;
      unfed = ends.unfed;
      runs = unnoted_with F (moment core u.log) (moment ends.last after.log) log ends.events ends.runs;
      consumes = ends.consumes;
      all_fed = ends.all_fed;
      appends = ends.appends;
      answered = ends.answered;
      sent = ends.sent;
      requests = ends.requests;
      end_is = ends.end_is;
    }

    -- or breaks off
    pub haggled_breaks : (found : ServeFault) (after : Left (Unit {0})) → Breaks no_note found core u after
        → Breaks F found core (io u.input u.output log) (left after.output log)
    haggled_breaks found after breaks = record {
      events = breaks.events;
      last = breaks.last;
      unread = breaks.unread;
      unfed = breaks.unfed;
      written = breaks.written;
      runs = unnoted_with F (moment core u.log) (moment breaks.last after.log) log breaks.events breaks.runs;
      consumes = breaks.consumes;
      appends = breaks.appends;
      cause = breaks.cause;
    }
