-- A session's log has one note of each of its requests, with the payload with which it came.
use Rattle.std.proofs.Common.{◌≡◌, ◌⊎◌, ℕ, zero, suc, ◌+◌, ◌≤◌, List, [], ◌∷◌, ◌++◌, Some, inl, inr, Result, Ok, Err, slice_get, refl, sym, ap, subst, ◌∙◌, arith}
use Rattle.std.proofs.lemmas.Option.{same_Some}
use Rattle.nm_book.specs.declared.rule.Entry.{Entry}
use Rattle.nm_book.specs.Log.{entry, whats}
use Rattle.nm_history.specs.declared.transition.Noted.{Noted}
use Rattle.nm_history.specs.declared.transition.Noted.TheVariants as arrival
use Rattle.nm_requests.specs.declared.request.Request.{Request}
use Rattle.nm_requests.specs.declared.task.Task.{Task}
use Rattle.nm_requests.specs.declared.task.Task.TheVariants.{Read, Write, Zero, Flush, Nothing, Disconnect}
use Rattle.nm_session.specs.declared.outstanding.Outstanding.{Outstanding}
use Rattle.nm_session.specs.declared.stage.Stage.{Stage}
use Rattle.nm_session.specs.declared.stage.Stage.TheVariants as stage
use Rattle.nm_session.specs.Asking.{outstanding_for}
use Rattle.nm_session.specs.CalledValue.{CalledValue}
use Rattle.nm_session.specs.Event.{Event, Fed, Asked, Stopped, Answered, Took}
use Rattle.nm_session.specs.Feeding.{FeedsAt}
use Rattle.nm_session.specs.Session.{Session}
use Rattle.nm_session.specs.declared.session_log.SessionLog as log
use Rattle.nm_session.specs.declared.target.Target as target
use Rattle.nm_leg.specs.Leg.{LegType}
use Rattle.nm_session.specs.declared.outcome.Outcome.{Outcome}
use Rattle.nm_server.specs.Replies.{Begins}
use Rattle.nm_workers.proofs.Coming.{answers_what_came}
use Rattle.nm_workers.specs.Laws.{HasCome}
use Rattle.nm_workers.specs.Results.{AnswersWith, IsNoted, Moment, Note, Comes, Gives, NotesFor, StepWith, RunsWith}

-- of a request's index the payload is this one
abbrev Only : (index : ℕ) → (payload : List ℕ) → (count at : ℕ) → (its : List ℕ) → Type 0
Only index payload count at its = at ≡ index → its ≡ payload

module _ {L : Type 0} where
  abbrev pub IsNotedIn : List (Entry (Noted L)) → (index : ℕ) → (payload : List ℕ) → Type 0
  IsNotedIn all index payload = (place : ℕ) × (slice_get (whats all) place ≡ Some (arrival.Asked index payload))

  abbrev IsSame : (one other : Noted L) → Type 0
  IsSame one other = one ≡ other

  -- so it is of each request of which these entries have the arrival
  abbrev EachNoted : (ℕ → List ℕ → Type 0) → List (Entry (Noted L)) → Type 0
  EachNoted So all = (index : ℕ) (payload : List ℕ) → IsNotedIn all index payload → So index payload

  at_end : (all : List (Entry (Noted L))) (last : Entry (Noted L)) (place : ℕ) (what : Noted L) → slice_get (whats (all ++ last ∷ [])) place ≡ Some what
      → (slice_get (whats all) place ≡ Some what) ⊎ (last.what ≡ what)
  at_end [] last zero what is = inr (same_Some last.what what is)
  at_end [] last (suc place) what is = absurd (cc is)
  at_end (one ∷ all) last zero what is = inl is
  at_end (one ∷ all) last (suc place) what is = at_end all last place what is

  abbrev index_of : Noted L → ℕ
  index_of (arrival.Moved made) = 0
  index_of (arrival.Asked index payload) = index
  index_of (arrival.Heard place) = 0

  abbrev payload_of : Noted L → List ℕ
  payload_of (arrival.Moved made) = []
  payload_of (arrival.Asked index payload) = payload
  payload_of (arrival.Heard place) = []

  module _ (So : ℕ → List ℕ → Type 0) where
    one_more : (all : List (Entry (Noted L))) (who shard at : ℕ) (its : List ℕ) → EachNoted So all → So at its
        → (index : ℕ) (payload : List ℕ) (place : ℕ)
        → (slice_get (whats all) place ≡ Some (arrival.Asked index payload)) ⊎ IsSame (arrival.Asked at its) (arrival.Asked index payload) → So index payload
    one_more all who shard at its each now index payload place (inl is) = each index payload (place, is)
    one_more all who shard at its each now index payload place (inr is) =
        subst (λ (i : ℕ). So i payload) (ap index_of is) (subst (λ (p : List ℕ). So at p) (ap payload_of is) now)

    each_more : (all : List (Entry (Noted L))) (who shard at : ℕ) (its : List ℕ) → EachNoted So all → So at its
        → EachNoted So (all ++ entry who shard (arrival.Asked at its) ∷ [])
    each_more all who shard at its each now index payload there =
        one_more all who shard at its each now index payload there.0
        (at_end all (entry who shard (arrival.Asked at its)) there.0 (arrival.Asked index payload) there.1)

  -- one entry more, which is this arrival
  abbrev pub NotesOne : (old : List (Entry (Noted L))) → (index : ℕ) → (payload : List ℕ) → (new : List (Entry (Noted L))) → Type 0
  NotesOne old index payload new = (who : ℕ) × (shard : ℕ) × (new ≡ old ++ entry who shard (arrival.Asked index payload) ∷ [])

-- a request is kept with its index
abbrev first_index : List Outstanding → ℕ
first_index [] = 0
first_index (held ∷ others) = held.index

pub held_index : (request : Request) (judged : Result Task ℕ) (held : Outstanding) → outstanding_for request judged ≡ held ∷ [] → held.index ≡ request.index
held_index request (Ok (Read offset n)) held is = sym (ap first_index is)
held_index request (Ok (Write offset n fua)) held is = sym (ap first_index is)
held_index request (Ok (Zero offset n fua)) held is = sym (ap first_index is)
held_index request (Ok Flush) held is = sym (ap first_index is)
held_index request (Ok Nothing) held is = absurd (cc is)
held_index request (Ok Disconnect) held is = absurd (cc is)
held_index request (Err code) held is = absurd (cc is)

-- a piece changes no count
fed_count : (at : Stage) (old : Session) (piece : List ℕ) (new : Session) → FeedsAt at old piece new → new.count ≡ old.count
fed_count stage.Haggling old piece new fed = ap (λ (s : Session). s.count) fed.new_is
fed_count stage.Serving old piece new fed = ap (λ (s : Session). s.count) fed
fed_count (stage.Ended by) old piece new fed = absurd fed

module _ {G : Type 0} (F : Note → G → G → Type 0) where
  -- what holds of the log, whatever is noted, holds after the events
  module _ (So : G → Type 0) (keeps : (note : Note) (old new : G) → F note old new → So old → So new) where
    stays_so : (old new : G) → new ≡ old → So old → So new
    stays_so old new is so = subst So (sym is) so

    for_kept : (payload : List ℕ) (held : List Outstanding) (old new : G) → NotesFor F payload held old new → So old → So new
    for_kept payload [] old new notes so = stays_so old new notes so
    for_kept payload (one ∷ others) old new notes so = keeps (Comes one.index payload) old new notes so

    step_kept : (event : Event) (old new : Moment G) → StepWith F old event new → So old.log → So new.log
    step_kept (Fed piece) old new step so = stays_so old.log new.log step.1 so
    step_kept (Asked request judged) old new step so = for_kept request.payload (outstanding_for request judged) old.log new.log step.notes so
    step_kept (Stopped fault) old new step so = stays_so old.log new.log step.1 so
    step_kept (Answered index outcome) old new step so = keeps _ old.log new.log step.result so
    step_kept (Took bytes) old new step so = stays_so old.log new.log step.1 so

    pub log_kept : (events : List Event) (old new : Moment G) → RunsWith F old events new → So old.log → So new.log
    log_kept [] old new runs so = subst (λ (m : Moment G). So m.log) (sym runs) so
    log_kept (event ∷ events) old new runs so = log_kept events runs.0 new runs.2 (step_kept event old runs.0 runs.1 so)

  module _ {L : Type 0} (all_of : G → List (Entry (Noted L)))
      (comes : (index : ℕ) (payload : List ℕ) (old new : G) → F (Comes index payload) old new → NotesOne (all_of old) index payload (all_of new))
      (gives : (called : CalledValue) (old new : G) → F (Gives called) old new → all_of new ≡ all_of old) where
    module _ (So : ℕ → ℕ → List ℕ → Type 0) (first : ℕ)
        (more : (count later index : ℕ) (payload : List ℕ) → count ≤ later → So count index payload → So later index payload)
        (now : (count : ℕ) (payload : List ℕ) → first ≤ count → So (count + 1) count payload) where
      -- so it is of each noted request, by how many requests were read
      abbrev AllSo : Moment G → Type 0
      AllSo m = (first ≤ m.core.count) × EachNoted (So m.core.count) (all_of m.log)

      -- where none is noted
      none_noted : (old new : Moment G) → all_of new.log ≡ all_of old.log → old.core.count ≤ new.core.count → AllSo old → AllSo new
      none_noted old new is grows so = (
        omega (arith, so.0, grows),
        λ index payload there. more old.core.count new.core.count index payload grows
            (so.1 index payload (subst (λ (all : List (Entry (Noted L))). IsNotedIn all index payload) is there)),
      )

      same_log : (old new : Moment G) → new.log ≡ old.log → old.core.count ≤ new.core.count → AllSo old → AllSo new
      same_log old new is grows so = none_noted old new (ap all_of is) grows so

      -- where the arrival of the request is noted
      one_noted : (old new : Moment G) (request : Request) → new.core.count ≡ old.core.count + 1 → request.index ≡ old.core.count
          → F (Comes request.index request.payload) old.log new.log → AllSo old → AllSo new
      one_noted old new request counted index_is notes so =
          let one = comes request.index request.payload old.log new.log notes in
          let before : EachNoted (So (old.core.count + 1)) (all_of old.log) =
          λ index payload there. more old.core.count (old.core.count + 1) index payload (omega arith) (so.1 index payload there) in
          let here : So (old.core.count + 1) request.index request.payload =
          subst (λ (index : ℕ). So (old.core.count + 1) index request.payload) (sym index_is) (now old.core.count request.payload so.0) in
          let after : EachNoted (So (old.core.count + 1)) (all_of old.log ++ entry one.0 one.1 (arrival.Asked request.index request.payload) ∷ []) =
          each_more (So (old.core.count + 1)) (all_of old.log) one.0 one.1 request.index request.payload before here in (
            omega (arith, so.0, counted),
            subst (λ (count : ℕ). EachNoted (So count) (all_of new.log)) (sym counted)
                (subst (λ (all : List (Entry (Noted L))). EachNoted (So (old.core.count + 1)) all) (sym one.2) after),
          )

      asked_so : (old new : Moment G) (request : Request) (judged : Result Task ℕ) → new.core.count ≡ old.core.count + 1 → request.index ≡ old.core.count
          → NotesFor F request.payload (outstanding_for request judged) old.log new.log → AllSo old → AllSo new
      asked_so old new request (Ok (Read offset n)) counted index_is notes so = one_noted old new request counted index_is notes so
      asked_so old new request (Ok (Write offset n fua)) counted index_is notes so = one_noted old new request counted index_is notes so
      asked_so old new request (Ok (Zero offset n fua)) counted index_is notes so = one_noted old new request counted index_is notes so
      asked_so old new request (Ok Flush) counted index_is notes so = one_noted old new request counted index_is notes so
      asked_so old new request (Ok Nothing) counted index_is notes so = same_log old new notes (omega (arith, counted)) so
      asked_so old new request (Ok Disconnect) counted index_is notes so = same_log old new notes (omega (arith, counted)) so
      asked_so old new request (Err code) counted index_is notes so = same_log old new notes (omega (arith, counted)) so

      step_so : (event : Event) (old new : Moment G) → StepWith F old event new → AllSo old → AllSo new
      step_so (Fed piece) old new step so =
          let is = fed_count old.core.stage old.core piece new.core step.0 in same_log old new step.1 (omega (arith, is)) so
      step_so (Asked request judged) old new step so =
          asked_so old new request judged (ap (λ (s : Session). s.count) step.asks.new_is) step.asks.index_is step.notes so
      step_so (Stopped fault) old new step so =
          let is : new.core.count ≡ old.core.count = ap (λ (s : Session). s.count) step.0.new_is in same_log old new step.1 (omega (arith, is)) so
      step_so (Answered index outcome) old new step so =
          let is : new.core.count ≡ old.core.count = ap (λ (s : Session). s.count) step.answers.new_is in
          none_noted old new (gives _ old.log new.log step.result) (omega (arith, is)) so
      step_so (Took bytes) old new step so =
          let is : new.core.count ≡ old.core.count = ap (λ (s : Session). s.count) step.0.new_is in same_log old new step.1 (omega (arith, is)) so

      runs_so : (events : List Event) (old new : Moment G) → RunsWith F old events new → AllSo old → AllSo new
      runs_so [] old new runs so = subst (λ (m : Moment G). AllSo m) (sym runs) so
      runs_so (event ∷ events) old new runs so = runs_so events runs.0 new runs.2 (step_so event old runs.0 runs.1 so)

    -- each noted request has an index below the count
    abbrev Below : (count index : ℕ) → (payload : List ℕ) → Type 0
    Below count index payload = index + 1 ≤ count

    below : (events : List Event) (old new : Moment G) → RunsWith F old events new → EachNoted (Below old.core.count) (all_of old.log) → EachNoted (Below new.core.count) (all_of new.log)
    below events old new runs so =
        (runs_so Below 0 (λ count later index payload grows is. omega (arith, grows, is)) (λ count payload is. omega arith) events old new runs (omega arith, so)).1

    -- after the request was read, and its arrival noted, its index has its payload alone
    only_after : (events : List Event) (old new : Moment G) (index : ℕ) (payload : List ℕ) → RunsWith F old events new → index + 1 ≤ old.core.count
        → EachNoted (Only index payload old.core.count) (all_of old.log) → EachNoted (Only index payload new.core.count) (all_of new.log)
    only_after events old new index payload runs inside so =
        (runs_so (Only index payload) (index + 1) (λ count later at its grows is. is)
        (λ count its is same. absurd (omega (arith, is, same))) events old new runs (inside, so)).1

    none_there : (all : List (Entry (Noted L))) (So : ℕ → List ℕ → Type 0) → all ≡ [] → EachNoted So all
    none_there all So is index payload there =
        absurd (let none : slice_get (whats []) there.0 ≡ Some (arrival.Asked index payload) = subst (λ (l : List (Entry (Noted L))). slice_get (whats l) there.0 ≡ Some (arrival.Asked index payload)) is there.1 in cc none)

    -- from where nothing is noted on, each noted request was read
    pub noted_was_read : (events : List Event) (from to : Moment G) → RunsWith F from events to → all_of from.log ≡ [] → EachNoted (Below to.core.count) (all_of to.log)
    noted_was_read events from to runs none = below events from to runs (none_there (all_of from.log) (Below from.core.count) none)

    -- no request is unread again
    pub count_grows : (events : List Event) (old new : Moment G) → RunsWith F old events new → old.core.count ≤ new.core.count
    count_grows events old new runs =
        (runs_so (λ count index payload. Unit {0}) old.core.count (λ count later index payload grows is. tt) (λ count payload is. tt)
        events old new runs (omega arith, λ index payload there. tt)).0

    -- from where nothing is noted on, the one note of the index of a request that came has its payload
    pub come_with : (from : Moment G) (events : List Event) (held : Outstanding) (old : Moment G) (come : HasCome F from events held old) → all_of from.log ≡ []
        → (payload : List ℕ) → IsNotedIn (all_of old.log) held.index payload → payload ≡ come.request.payload
    come_with from events held old come none payload there =
        let held_is = held_index come.request come.judged held come.is_held in
        let reads = come.reads in
        let counted : come.new.core.count ≡ come.old.core.count + 1 = ap (λ (s : Session). s.count) reads.asks.new_is in
        let index_is : held.index ≡ come.old.core.count = held_is ∙ reads.asks.index_is in
        let front : EachNoted (Below come.old.core.count) (all_of come.old.log) =
        below come.before from come.old come.earlier (none_there (all_of from.log) (Below from.core.count) none) in
        let one = comes held.index come.request.payload come.old.log come.new.log come.comes in
        let before : EachNoted (Only held.index come.request.payload come.new.core.count) (all_of come.old.log) =
        λ at its there same. let low = front at its there in absurd (omega (arith, low, same, index_is)) in
        let read : EachNoted (Only held.index come.request.payload come.new.core.count) (all_of come.new.log) =
        subst (λ (all : List (Entry (Noted L))). EachNoted (Only held.index come.request.payload come.new.core.count) all) (sym one.2)
        (each_more (Only held.index come.request.payload come.new.core.count) (all_of come.old.log) one.0 one.1 held.index come.request.payload before (λ same. refl)) in
        only_after come.between come.new old held.index come.request.payload come.later (omega (arith, counted, index_is)) read
        held.index payload there refl

named_kept : {T H G : Type 0} (target : target.Ghosts T H G) (log : log.Ghosts G H) (session : ℕ) (note : Note) (old new : G) → IsNoted target log session note old new
    → log.session new ≡ log.session old
named_kept target log session (Comes index payload) old new notes = notes.1
named_kept target log session (Gives called) old new notes = notes.1

module _ {L T G : Type 0} {type : LegType L} {target : target.Ghosts T (List (Entry (Noted L))) G} {log : log.Ghosts G (List (Entry (Noted L)))} {noted : G → List (Entry (Noted L))}
    {session : ℕ} {from : Moment G} (begins : Begins type target log noted session from) (events : List Event) (old : Moment G)
    (runs : RunsWith (IsNoted target log session) from events old) where
  -- whatever happens, the log stays the session's
  pub named_still : log.session old.log ≡ session
  named_still = log_kept (IsNoted target log session) (λ (a : G). log.session a ≡ session) (λ note a b notes is. named_kept target log session note a b notes ∙ is) events from old runs begins.named

  pub come_of : (index : ℕ) (outcome : Outcome) (new : Moment G) (answer : AnswersWith (IsNoted target log session) old index outcome new)
      → HasCome (IsNoted target log session) from events answer.answers.held old
  come_of index outcome new answer = answers_what_came (IsNoted target log session) from events old index outcome new begins.none runs answer

  -- where what is asked is noted, and nothing is as others are heard
  pub own_payload : ((index : ℕ) (payload : List ℕ) (a b : G) → log.asks a index payload b → NotesOne (noted a) index payload (noted b))
      → ((told : List (Entry (Noted L))) (a b : G) → log.hears a told b → noted b ≡ noted a)
      → (held : Outstanding) (come : HasCome (IsNoted target log session) from events held old)
      → (payload : List ℕ) → IsNotedIn (noted old.log) held.index payload → payload ≡ come.request.payload
  own_payload comes gives held come payload there =
      come_with (IsNoted target log session) noted (λ index its a b notes. comes index its a b notes.0) (λ called a b notes. gives notes.0.told a b notes.0.hears)
      from events held old come begins.nothing payload there
