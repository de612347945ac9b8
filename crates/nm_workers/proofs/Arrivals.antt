-- Requests that are read, and their arrivals in the log.
use Rattle.std.proofs.Common.{◌≡◌, ℕ, zero, suc, List, [], ◌∷◌, ◌++◌, Option, Some, None, Result, Ok, Err, refl, sym, ap, ◌∙◌, subst, ◌⊎◌, inl, inr}
use Rattle.nm_requests.specs.declared.request.Request.{Request}
use Rattle.nm_requests.specs.declared.task.Task.{Task}
use Rattle.nm_requests.specs.declared.task.Task.TheVariants as task
use Rattle.nm_session.specs.declared.next.Next.{Next}
use Rattle.nm_session.specs.declared.next.Next.TheVariants as next
use Rattle.nm_session.specs.declared.outstanding.Outstanding.{Outstanding}
use Rattle.nm_session.specs.declared.session_log.SessionLog as log
use Rattle.nm_session.specs.declared.target.Target as target
use Rattle.nm_session.specs.Asking.{next_after, outstanding_for}
use Rattle.nm_session.specs.Event.{Event, Fed, Asked, Stopped, Answered, Took}
use Rattle.nm_session.specs.Laws.{AreReadings}
use Rattle.nm_session.specs.Reading.{Reads, ReadsOn, RepliesTimes, Tells, StaysEnded, Disconnects, Breaks}
use Rattle.nm_session.specs.Session.{Session}
use Rattle.nm_workers.specs.Results.{Moment, moment, Note, Comes, IsNoted, NotesFor, ReadsWith, RunsWith}
use Rattle.nm_workers.proofs.ResultRuns.{runs_with-append}

-- the index and the payload that are handed out
abbrev index_in : Option Next → ℕ
index_in (Some (next.Issue index task payload)) = index
index_in other = 0

abbrev payload_in : Option Next → List ℕ
payload_in (Some (next.Issue index task payload)) = payload
payload_in other = []

-- no request is handed out
abbrev pub HandsOutNone : Next → Type 0
HandsOutNone (next.Issue index task payload) = ⊥
HandsOutNone other = Unit {0}

readings_on : (xs ys : List Event) → AreReadings xs → AreReadings ys → AreReadings (xs ++ ys)
readings_on [] ys first more = more
readings_on (Fed piece ∷ xs) ys first more = absurd first
readings_on (Asked request judged ∷ xs) ys first more = readings_on xs ys first more
readings_on (Stopped found ∷ xs) ys first more = readings_on xs ys first more
readings_on (Answered index outcome ∷ xs) ys first more = absurd first
readings_on (Took bytes ∷ xs) ys first more = absurd first

module _ {G : Type 0} (F : Note → G → G → Type 0) where
  -- requests are read, and then more
  pub reads_with_on : (a b c : Moment G) → ReadsWith F a b → ReadsWith F b c → ReadsWith F a c
  reads_with_on a b c first more = record {
    events = first.events ++ more.events;
    are_readings = readings_on first.events more.events first.are_readings more.are_readings;
    runs = runs_with-append F a b c first.events more.events first.runs more.runs;
  }

  -- none is
  pub reads_none : (at : Moment G) → ReadsWith F at at
  reads_none at = record { events = []; are_readings = tt; runs = refl }

  unread : (old new : Session) (log : G) → new ≡ old → ReadsWith F (moment old log) (moment new log)
  unread old new log is = record { events = []; are_readings = tt; runs = ap (λ (s : Session). moment s log) is }

  -- of a request that needs no target nothing is noted
  untargeted : (request : Request) (judged : Result Task ℕ) (log : G) → next_after request judged ≡ None
      → NotesFor F request.payload (outstanding_for request judged) log log
  untargeted request (Ok task.Nothing) log none = refl
  untargeted request (Ok task.Disconnect) log none = refl
  untargeted request (Ok task.Flush) log none = absurd (cc)
  untargeted request (Ok (task.Read offset count)) log none = absurd (cc)
  untargeted request (Ok (task.Write offset count fua)) log none = absurd (cc)
  untargeted request (Ok (task.Zero offset count fua)) log none = absurd (cc)
  untargeted request (Err code) log none = refl

  replied : (times : ℕ) (old new : Session) (log : G) → RepliesTimes times old new
      → ReadsWith F (moment old log) (moment new log)
  replied zero old new log is = unread old new log is
  replied (suc times) old new log replies =
      let one = replies.2 in
      reads_with_on (moment old log) (moment replies.0 log) (moment new log)
      (replied times old replies.0 log replies.1) (record {
        events = Asked one.request one.judged ∷ [];
        are_readings = tt;
        runs = (
          moment new log,
          record { asks = one.asks; notes = untargeted one.request one.judged log one.no_target },
          refl,
        );
      })

  -- requests that need no target are read
  pub reads_on_with : (old new : Session) (log : G) → ReadsOn old new → ReadsWith F (moment old log) (moment new log)
  reads_on_with old new log reads = replied reads.times old new log reads.each

  ended : (old new : Session) (log : G) → StaysEnded old new ⊎ (Disconnects old new ⊎ Breaks old new)
      → ReadsWith F (moment old log) (moment new log)
  ended old new log (inl stays) = unread old new log stays.unchanged
  ended old new log (inr (inl leaves)) = record {
    events = Asked leaves.request (Ok task.Disconnect) ∷ [];
    are_readings = tt;
    runs = (moment new log, record { asks = leaves.asks; notes = refl }, refl);
  }
  ended old new log (inr (inr breaks)) = record {
    events = Stopped breaks.fault ∷ [];
    are_readings = tt;
    runs = (moment new log, (breaks.stops, refl), refl);
  }

  tells_none : (next : Next) (old new : Session) (log : G) → HandsOutNone next → Tells old next new
      → ReadsWith F (moment old log) (moment new log)
  tells_none (next.Issue index task payload) old new log none tells = absurd none
  tells_none next.Starved old new log none tells = unread old new log tells.unchanged
  tells_none next.Full old new log none tells = unread old new log tells.unchanged
  tells_none next.Ended old new log none tells = ended old new log tells

  -- and none with one
  pub none_with : (next : Next) (old new : Session) (log : G) → HandsOutNone next → Reads old next new
      → ReadsWith F (moment old log) (moment new log)
  none_with next old new log none reads =
      reads_with_on (moment old log) (moment reads.mid log) (moment new log)
      (reads_on_with old reads.mid log reads.reads_on) (tells_none next reads.mid new log none reads.tells)

  -- of one that is handed out its arrival is noted
  targeted : (request : Request) (task : Task) (index : ℕ) (payload : List ℕ) (log later : G)
      → next_after request (Ok task) ≡ Some (next.Issue index task payload) → F (Comes index payload) log later
      → NotesFor F request.payload (outstanding_for request (Ok task)) log later
  targeted request task.Nothing index payload log later is comes = absurd (cc)
  targeted request task.Disconnect index payload log later is comes = absurd (cc)
  targeted request task.Flush index payload log later is comes =
      subst (λ (i : ℕ). F (Comes i request.payload) log later) (sym (ap index_in is))
      (subst (λ (p : List ℕ). F (Comes index p) log later) (sym (ap payload_in is)) comes)
  targeted request (task.Read offset count) index payload log later is comes =
      subst (λ (i : ℕ). F (Comes i request.payload) log later) (sym (ap index_in is))
      (subst (λ (p : List ℕ). F (Comes index p) log later) (sym (ap payload_in is)) comes)
  targeted request (task.Write offset count fua) index payload log later is comes =
      subst (λ (i : ℕ). F (Comes i request.payload) log later) (sym (ap index_in is))
      (subst (λ (p : List ℕ). F (Comes index p) log later) (sym (ap payload_in is)) comes)
  targeted request (task.Zero offset count fua) index payload log later is comes =
      subst (λ (i : ℕ). F (Comes i request.payload) log later) (sym (ap index_in is))
      (subst (λ (p : List ℕ). F (Comes index p) log later) (sym (ap payload_in is)) comes)

  pub issued_with : (old new : Session) (index : ℕ) (task : Task) (payload : List ℕ) (log later : G)
      → Reads old (next.Issue index task payload) new → F (Comes index payload) log later
      → ReadsWith F (moment old log) (moment new later)
  issued_with old new index task payload log later reads comes =
      let tells = reads.tells in
      reads_with_on (moment old log) (moment reads.mid log) (moment new later)
      (reads_on_with old reads.mid log reads.reads_on) (record {
        events = Asked tells.request (Ok task) ∷ [];
        are_readings = tt;
        runs = (
          moment new later,
          record {
            asks = tells.asks;
            notes = targeted tells.request task index payload log later tells.is_next comes;
          },
          refl,
        );
      })

-- the log stays the session's
module _ {T H G : Type 0} (target : target.Ghosts T H G) (log : log.Ghosts G H) (session : ℕ) where
  noted_stays : (payload : List ℕ) (held : List Outstanding) (old new : G)
      → NotesFor (IsNoted target log session) payload held old new → log.session new ≡ log.session old
  noted_stays payload [] old new same = ap (λ (g : G). log.session g) same
  noted_stays payload (one ∷ others) old new noted = noted.1

  pub session_stays : (events : List Event) (old new : Moment G) → RunsWith (IsNoted target log session) old events new
      → log.session new.log ≡ log.session old.log
  session_stays [] old new runs = ap (λ (m : Moment G). log.session m.log) runs
  session_stays (Fed piece ∷ events) old new runs =
      session_stays events runs.0 new runs.2 ∙ ap (λ (g : G). log.session g) runs.1.1
  session_stays (Asked request judged ∷ events) old new runs =
      session_stays events runs.0 new runs.2
      ∙ noted_stays request.payload (outstanding_for request judged) old.log runs.0.log runs.1.notes
  session_stays (Stopped found ∷ events) old new runs =
      session_stays events runs.0 new runs.2 ∙ ap (λ (g : G). log.session g) runs.1.1
  session_stays (Answered index outcome ∷ events) old new runs =
      session_stays events runs.0 new runs.2 ∙ runs.1.result.1
  session_stays (Took bytes ∷ events) old new runs =
      session_stays events runs.0 new runs.2 ∙ ap (λ (g : G). log.session g) runs.1.1
