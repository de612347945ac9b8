-- After the haggling: what goes out and what was read, event by event.
use Rattle.std.proofs.Common.{◌≡◌, ℕ, ◌+◌, ◌≤◌, List, [], ◌∷◌, ◌++◌, Result, Ok, Err, refl, sym, ap, subst, ◌∙◌, arith, append_assoc, ◌⊎◌, inl, inr, ⊎_elim}
use Rattle.std.proofs.lemmas.List.{append-nil}
use Rattle.std.specs.List.{flat_map}
use Rattle.nm_requests.specs.declared.request.Request.{Request}
use Rattle.nm_requests.specs.declared.task.Task.{Task}
use Rattle.nm_requests.specs.declared.task.Task.TheVariants.{Read, Write, Zero, Flush, Nothing, Disconnect}
use Rattle.nm_requests.specs.First.{message_of}
use Rattle.nm_wire.specs.declared.export.Export.{Export}
use Rattle.nm_requests.specs.Message.{Message, message_bytes}
use Rattle.nm_requests.specs.Stream.{Begins, StartsWith, most_requests}
use Rattle.nm_session.specs.declared.ended_by.EndedBy.{EndedBy}
use Rattle.nm_session.specs.declared.ended_by.EndedBy.TheVariants as by
use Rattle.nm_session.specs.declared.outstanding.Outstanding.{Outstanding}
use Rattle.nm_session.specs.declared.limit.Limit.{Limit}
use Rattle.nm_session.specs.declared.outcome.Outcome.{Outcome}
use Rattle.nm_session.specs.declared.stage.Stage.{Stage}
use Rattle.nm_session.specs.declared.stage.Stage.TheVariants as stage
use Rattle.nm_session.specs.Asking.{IsJudged, outstanding_for, own_reply, stage_after}
use Rattle.nm_session.specs.Event.{Event, Fed, Asked, Stopped, Answered, Took, Runs, fed_bytes, taken_bytes, messages}
use Rattle.nm_session.specs.Feeding.{FeedsAt}
use Rattle.nm_session.specs.Outcome.{says, reply_frame}
use Rattle.nm_session.specs.Session.{Session}
use Rattle.nm_session.specs.Text.{AreJudged, IsNothingRead, LastIsDisconnect, cookie_of, replies}
use Rattle.nm_session.proofs.Known.{AreKnown, Knows, known_asked, taken_out}

-- what goes out from here on
abbrev pub Out : List Request → Session → List Event → Session → Type 0
Out before old events new = taken_bytes events ++ new.out ≡ old.out ++ replies before events

-- a reply that follows what waits
reply_more : (taken_now out reply all : List ℕ) → taken_now ≡ (out ++ reply) ++ all
    → taken_now ≡ out ++ (reply ++ all)
reply_more taken_now out reply all e = e ∙ append_assoc out reply all

-- bytes that are taken
pub take_more : (bytes out more all : List ℕ) → bytes ≡ out → more ≡ all → bytes ++ more ≡ out ++ all
take_more bytes out more all e f = ap (λ (xs : List ℕ). xs ++ more) e ∙ ap (λ (xs : List ℕ). out ++ xs) f

-- the reply to an outstanding request has its cookie
answered_out : (before : List Request) (old new : Session) (events : List Event) (index : ℕ)
    (outcome : Outcome) (cookie : ℕ) → cookie_of index before ≡ cookie
    → taken_bytes events ++ new.out ≡ (old.out ++ reply_frame cookie (says outcome)) ++ replies before events
    → Out before old (Answered index outcome ∷ events) new
answered_out before old new events index outcome cookie is e =
    reply_more (taken_bytes events ++ new.out) old.out (reply_frame cookie (says outcome))
    (replies before events) e
    ∙ ap (λ n. old.out ++ (reply_frame n (says outcome) ++ replies before events)) (sym is)

not_both : (by : EndedBy) → stage.Ended by ≡ stage.Serving → ⊥
not_both by e = cc

-- once the session is over: replies go out, and nothing is read
pub record Over (before : List Request) (old : Session) (events : List Event) (new : Session)
    : Type 0 where
  pub out : Out before old events new
  pub nothing : IsNothingRead events

pub over : (events : List Event) (before : List Request) (old new : Session) (by : EndedBy)
    → old.stage ≡ stage.Ended by → AreKnown before old.count old.outstanding
    → Runs old events new → Over before old events new
over [] before old new by ended known runs =
    record { out = ap (λ (s : Session). s.out) runs ∙ sym (append-nil old.out); nothing = tt }
over (Fed piece ∷ events) before old new by ended known runs =
    absurd (subst (λ (s : Stage). FeedsAt s old piece runs.0) ended runs.1)
over (Asked request judged ∷ events) before old new by ended known runs =
    absurd (not_both by (sym ended ∙ runs.1.reading.serving))
over (Stopped fault ∷ events) before old new by ended known runs =
    absurd (not_both by (sym ended ∙ runs.1.reading.serving))
over (Answered index outcome ∷ events) before old new by ended known runs =
    let step = runs.1 in
    let out = taken_out (Knows before old.count) step.before step.held step.after
    (subst (λ (xs : List Outstanding). AreKnown before old.count xs) step.found known) in
    let rest = over events before (record old {
      outstanding = step.before ++ step.after;
      out = old.out ++ reply_frame step.held.cookie (says outcome);
    }) new by ended out.1 (subst (λ (s : Session). Runs s events new) step.new_is runs.2) in
    record {
      out = answered_out before old new events index outcome step.held.cookie
          (subst (λ n. cookie_of n before ≡ step.held.cookie) step.index_is out.0.cookie) rest.out;
      nothing = rest.nothing;
    }
over (Took bytes ∷ events) before old new by ended known runs =
    let rest = over events before (record old { out = [] }) new by ended known
    (subst (λ (s : Session). Runs s events new) runs.1.new_is runs.2) in
    record {
      out = append_assoc bytes (taken_bytes events) new.out
          ∙ take_more bytes old.out _ _ runs.1.bytes_are rest.out;
      nothing = rest.nothing;
    }

-- while requests are read: replies go out, the requests are the first of the bytes, each is judged,
-- and nothing is read after a DISC
pub record Served (before : List Request) (old : Session) (events : List Event) (new : Session)
    : Type 0 where
  pub out : Out before old events new
  pub rest : List ℕ
  pub begins : Begins old.count (old.rest ++ fed_bytes events) (messages events) rest
  pub judged : AreJudged old.haggling.export old.limit old.count events
  pub last : LastIsDisconnect events

nothing_fed : (events : List Event) → IsNothingRead events → fed_bytes events ≡ []
nothing_fed [] none = refl
nothing_fed (Fed piece ∷ events) none = absurd none
nothing_fed (Asked request judged ∷ events) none = absurd none
nothing_fed (Stopped fault ∷ events) none = absurd none
nothing_fed (Answered index outcome ∷ events) none = nothing_fed events none
nothing_fed (Took bytes ∷ events) none = nothing_fed events none

pub nothing_asked : (events : List Event) → IsNothingRead events → messages events ≡ []
nothing_asked [] none = refl
nothing_asked (Fed piece ∷ events) none = absurd none
nothing_asked (Asked request judged ∷ events) none = absurd none
nothing_asked (Stopped fault ∷ events) none = absurd none
nothing_asked (Answered index outcome ∷ events) none = nothing_asked events none
nothing_asked (Took bytes ∷ events) none = nothing_asked events none

pub nothing_judged : (export : Export) (limit : Limit) (n : ℕ) (events : List Event) → IsNothingRead events
    → AreJudged export limit n events
nothing_judged export limit n [] none = tt
nothing_judged export limit n (Fed piece ∷ events) none = absurd none
nothing_judged export limit n (Asked request judged ∷ events) none = absurd none
nothing_judged export limit n (Stopped fault ∷ events) none = absurd none
nothing_judged export limit n (Answered index outcome ∷ events) none = nothing_judged export limit n events none
nothing_judged export limit n (Took bytes ∷ events) none = nothing_judged export limit n events none

pub nothing_last : (events : List Event) → IsNothingRead events → LastIsDisconnect events
nothing_last [] none = tt
nothing_last (Fed piece ∷ events) none = absurd none
nothing_last (Asked request judged ∷ events) none = absurd none
nothing_last (Stopped fault ∷ events) none = absurd none
nothing_last (Answered index outcome ∷ events) none = nothing_last events none
nothing_last (Took bytes ∷ events) none = nothing_last events none

no_requests : (n : ℕ) (rest : List ℕ) → n ≤ most_requests → Begins n (rest ++ []) [] rest
no_requests n rest few = record { whole = append-nil rest; valid = tt; few = omega arith }

nothing_begins : (n : ℕ) (rest : List ℕ) (events : List Event) → n ≤ most_requests
    → IsNothingRead events → Begins n (rest ++ fed_bytes events) (messages events) rest
nothing_begins n rest events few none =
    rw (nothing_fed events none, nothing_asked events none) (no_requests n rest few)

-- one request more in front
asked_begins : (n : ℕ) (bytes more after : List ℕ) (message : Message) (others : List Message)
    (rest : List ℕ) → StartsWith n bytes message after → Begins (n + 1) (after ++ more) others rest
    → Begins n (bytes ++ more) (message ∷ others) rest
asked_begins n bytes more after message others rest first begins = record {
  whole = ap (λ (xs : List ℕ). xs ++ more) first.whole
      ∙ append_assoc (message_bytes message) after more
      ∙ ap (λ (xs : List ℕ). message_bytes message ++ xs) begins.whole
      ∙ sym (append_assoc (message_bytes message) (flat_map message_bytes others) rest);
  valid = (first.valid, begins.valid);
  few = omega (arith, begins.few);
}

fed_begins : (n : ℕ) (rest piece more : List ℕ) (requests : List Message) (left : List ℕ)
    → Begins n ((rest ++ piece) ++ more) requests left
    → Begins n (rest ++ (piece ++ more)) requests left
fed_begins n rest piece more requests left begins = record {
  whole = sym (append_assoc rest piece more) ∙ begins.whole;
  valid = begins.valid;
  few = begins.few;
}

last_asked : (request : Request) (judged : Result Task ℕ) (events : List Event)
    → stage_after judged ≡ stage.Serving → LastIsDisconnect events
    → LastIsDisconnect (Asked request judged ∷ events)
last_asked request (Ok (Read offset n)) events e last = last
last_asked request (Ok (Write offset n fua)) events e last = last
last_asked request (Ok (Zero offset n fua)) events e last = last
last_asked request (Ok Flush) events e last = last
last_asked request (Ok Nothing) events e last = last
last_asked request (Ok Disconnect) events e last = absurd (not_both by.Disconnect e)
last_asked request (Err code) events e last = last

serves_or_ends : (judged : Result Task ℕ)
    → (stage_after judged ≡ stage.Serving) ⊎ (judged ≡ Ok Disconnect)
serves_or_ends (Ok (Read offset n)) = inl refl
serves_or_ends (Ok (Write offset n fua)) = inl refl
serves_or_ends (Ok (Zero offset n fua)) = inl refl
serves_or_ends (Ok Flush) = inl refl
serves_or_ends (Ok Nothing) = inl refl
serves_or_ends (Ok Disconnect) = inr refl
serves_or_ends (Err code) = inl refl

last_disconnect : (request : Request) (judged : Result Task ℕ) (events : List Event)
    → judged ≡ Ok Disconnect → IsNothingRead events
    → LastIsDisconnect (Asked request judged ∷ events)
last_disconnect request judged events e none =
    subst (λ (j : Result Task ℕ). LastIsDisconnect (Asked request j ∷ events)) (sym e) none

-- the session after a request was read
abbrev asked_state : Session → Request → Result Task ℕ → List ℕ → Session
asked_state old request judged rest = record old {
  stage = stage_after judged;
  rest = rest;
  count = old.count + 1;
  outstanding = old.outstanding ++ outstanding_for request judged;
  out = old.out ++ own_reply request judged;
}

served_on : (before : List Request) (old new : Session) (request : Request)
    (judged : Result Task ℕ) (rest : List ℕ) (events : List Event)
    → request.index ≡ old.count → StartsWith old.count old.rest (message_of request) rest
    → IsJudged old.haggling.export old.limit request judged → stage_after judged ≡ stage.Serving
    → Served (request ∷ before) (asked_state old request judged rest) events new
    → Served before old (Asked request judged ∷ events) new
served_on before old new request judged rest events index first is_judged e more = record {
  out = reply_more (taken_bytes events ++ new.out) old.out (own_reply request judged)
      (replies (request ∷ before) events) more.out;
  rest = more.rest;
  begins = asked_begins old.count old.rest (fed_bytes events) rest (message_of request)
      (messages events) more.rest first more.begins;
  judged = (index, is_judged, more.judged);
  last = last_asked request judged events e more.last;
}

served_end : (before : List Request) (old new : Session) (request : Request)
    (judged : Result Task ℕ) (rest : List ℕ) (events : List Event)
    → request.index ≡ old.count → StartsWith old.count old.rest (message_of request) rest
    → IsJudged old.haggling.export old.limit request judged → judged ≡ Ok Disconnect
    → Over (request ∷ before) (asked_state old request judged rest) events new
    → Served before old (Asked request judged ∷ events) new
served_end before old new request judged rest events index first is_judged e more = record {
  out = reply_more (taken_bytes events ++ new.out) old.out (own_reply request judged)
      (replies (request ∷ before) events) more.out;
  rest = rest;
  begins = asked_begins old.count old.rest (fed_bytes events) rest (message_of request)
      (messages events) rest first
      (nothing_begins (old.count + 1) rest events (omega (arith, first.few)) more.nothing);
  judged = (
    index,
    is_judged,
    nothing_judged old.haggling.export old.limit (old.count + 1) events more.nothing,
  );
  last = last_disconnect request judged events e more.nothing;
}

pub served : (events : List Event) (before : List Request) (old new : Session)
    → old.stage ≡ stage.Serving → old.count ≤ most_requests
    → AreKnown before old.count old.outstanding
    → Runs old events new → Served before old events new
served [] before old new serving few known runs = record {
  out = ap (λ (s : Session). s.out) runs ∙ sym (append-nil old.out);
  rest = old.rest;
  begins = no_requests old.count old.rest few;
  judged = tt;
  last = tt;
}
served (Fed piece ∷ events) before old new serving few known runs =
    let step = subst (λ (s : Stage). FeedsAt s old piece runs.0) serving runs.1 in
    let more = served events before (record old { rest = old.rest ++ piece }) new serving few known
    (subst (λ (s : Session). Runs s events new) step runs.2) in
    record {
      out = more.out;
      rest = more.rest;
      begins = fed_begins old.count old.rest piece (fed_bytes events) (messages events) more.rest
          more.begins;
      judged = more.judged;
      last = more.last;
    }
served (Asked request judged ∷ events) before old new serving few known runs =
    let step = runs.1 in
    let rest = runs.0.rest in
    let state = asked_state old request judged rest in
    let few_more : old.count + 1 ≤ most_requests = omega (arith, step.first.few) in
    let known_more = known_asked before old.count request judged old.outstanding step.index_is known in
    let runs_on = subst (λ (s : Session). Runs s events new) step.new_is runs.2 in
    ⊎_elim
    (λ e. served_on before old new request judged rest events step.index_is step.first
    step.is_judged e (served events (request ∷ before) state new e few_more known_more runs_on))
    (λ e. served_end before old new request judged rest events step.index_is step.first
    step.is_judged e (over events (request ∷ before) state new by.Disconnect
    (ap stage_after e) known_more runs_on))
    (serves_or_ends judged)
served (Stopped fault ∷ events) before old new serving few known runs =
    let more = over events before (record old { stage = stage.Ended by.Protocol }) new by.Protocol
    refl known (subst (λ (s : Session). Runs s events new) runs.1.new_is runs.2) in
    record {
      out = more.out;
      rest = old.rest;
      begins = nothing_begins old.count old.rest events few more.nothing;
      judged = nothing_judged old.haggling.export old.limit old.count events more.nothing;
      last = nothing_last events more.nothing;
    }
served (Answered index outcome ∷ events) before old new serving few known runs =
    let step = runs.1 in
    let out = taken_out (Knows before old.count) step.before step.held step.after
    (subst (λ (xs : List Outstanding). AreKnown before old.count xs) step.found known) in
    let more = served events before (record old {
      outstanding = step.before ++ step.after;
      out = old.out ++ reply_frame step.held.cookie (says outcome);
    }) new serving few out.1 (subst (λ (s : Session). Runs s events new) step.new_is runs.2) in
    record {
      out = answered_out before old new events index outcome step.held.cookie
          (subst (λ n. cookie_of n before ≡ step.held.cookie) step.index_is out.0.cookie) more.out;
      rest = more.rest;
      begins = more.begins;
      judged = more.judged;
      last = more.last;
    }
served (Took bytes ∷ events) before old new serving few known runs =
    let more = served events before (record old { out = [] }) new serving few known
    (subst (λ (s : Session). Runs s events new) runs.1.new_is runs.2) in
    record {
      out = append_assoc bytes (taken_bytes events) new.out
          ∙ take_more bytes old.out _ _ runs.1.bytes_are more.out;
      rest = more.rest;
      begins = more.begins;
      judged = more.judged;
      last = more.last;
    }
