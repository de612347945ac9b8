-- From the start: what goes out while the client and the server haggle, and what follows.
use Rattle.std.proofs.Common.{◌≡◌, ◌≢◌, ℕ, ◌+◌, ◌≤◌, Bool, List, [], ◌∷◌, ◌++◌, length, drop, refl, sym, ap, subst, ◌∙◌, arith, append_assoc, length-append}
use Rattle.std.proofs.lemmas.List.{append-nil, drop-append-le}
use Rattle.std.proofs.Math.Seq.{drop-append-add}
use Rattle.nm_haggle.specs.declared.next.Next.{Next}
use Rattle.nm_haggle.specs.declared.next.Next.TheVariants as next
use Rattle.nm_haggle.specs.Haggling.{Haggling, Haggles, HagglesFrom, End, IsUsed, initial_state, end_at}
use Rattle.nm_haggle.specs.Haggling as haggle
use Rattle.nm_haggle.specs.Handshake.{NoFlags, handshake_destination}
use Rattle.nm_haggle.specs.Laws.{GoesOn, EndsThere}
use Rattle.nm_requests.specs.Message.{Message}
use Rattle.nm_requests.specs.Stream.{Begins}
use Rattle.nm_wire.specs.declared.export.Export.{Export}
use Rattle.nm_session.specs.declared.outstanding.Outstanding.{Outstanding}
use Rattle.nm_session.specs.declared.limit.Limit.{Limit}
use Rattle.nm_session.specs.declared.stage.Stage.TheVariants as stage
use Rattle.nm_session.specs.Event.{Event, Fed, Asked, Stopped, Answered, Took, Runs, fed_bytes, taken_bytes, messages}
use Rattle.nm_session.specs.Feeding.{stage_then, request_bytes}
use Rattle.nm_session.specs.Session.{Session}
use Rattle.nm_session.specs.Text.{AreRead, AreJudged, LastIsDisconnect, replies}
use Rattle.nm_session.proofs.Fed.{response_of}
use Rattle.nm_session.proofs.Transmission.{served, over, take_more, nothing_asked, nothing_judged, nothing_last}

-- a session that haggles: these bytes wait
abbrev pub state_of : Limit → Haggling → List ℕ → Session
state_of limit haggling waiting = record {
  limit = limit;
  stage = stage.Haggling;
  haggling = haggling;
  rest = [];
  count = 0;
  outstanding = [];
  out = waiting;
}

-- the text so far was answered with these bytes, and asks for more
abbrev pub Asks : Export → List ℕ → List ℕ → Haggling → Type 0
Asks export text replied haggling =
    HagglesFrom (initial_state export) text (response_of replied (length text) next.More) haggling

-- what is said of a session in which this text was answered with these bytes, while others wait
pub record Whole (export : Export) (limit : Limit) (text replied waiting : List ℕ) (events : List Event)
    (new : Session) : Type 0 where
  pub more : List ℕ
  pub end : End
  pub haggles : Haggles export (text ++ fed_bytes events) (replied ++ more) end
  pub out_is : taken_bytes events ++ new.out ≡ waiting ++ (more ++ replies [] events)
  pub are_read : AreRead end (text ++ fed_bytes events) (messages events)
  pub are_judged : AreJudged export limit 0 events
  pub last : LastIsDisconnect events

pub initial : (export : Export) → Asks export [] [] (initial_state export)
initial export = record {
  destination = handshake_destination export (NoFlags []);
  leads = record { tree = NoFlags []; valid = omega arith; bytes = refl; destination = refl };
  out_is = refl;
  next_is = refl;
  used_is = refl;
  export_is = refl;
  phase_is = refl;
  rest_is = refl;
}

-- how much of the piece was used
used_at : (shown : Next) (old new : Haggling) (piece out : List ℕ) (used : ℕ)
    → (from : HagglesFrom old piece (response_of out used shown) new)
    → IsUsed shown piece from.destination.rest used
used_at shown old new piece out used from =
    subst (λ (n : Next). IsUsed n piece from.destination.rest used) (sym from.next_is) from.used_is

more_used : (old new : Haggling) (piece out : List ℕ) (used : ℕ)
    → HagglesFrom old piece (response_of out used next.More) new → used ≡ length piece
more_used old new piece out used from = used_at next.More old new piece out used from

-- the piece is answered after the text
joined : GoesOn → (export : Export) (text replied : List ℕ) (old new : Haggling)
    (piece out : List ℕ) (used : ℕ) (shown : Next) → Asks export text replied old
    → HagglesFrom old piece (response_of out used shown) new
    → HagglesFrom (initial_state export) (text ++ piece)
    (response_of (replied ++ out) (length text + used) shown) new
joined goes_on export text replied old new piece out used shown so_far from =
    goes_on (initial_state export) old new text piece (response_of replied (length text) next.More)
    (response_of out used shown) refl so_far from

asks_more : GoesOn → (export : Export) (text replied : List ℕ) (old new : Haggling)
    (piece out : List ℕ) (used : ℕ) → Asks export text replied old
    → HagglesFrom old piece (response_of out used next.More) new
    → Asks export (text ++ piece) (replied ++ out) new
asks_more goes_on export text replied old new piece out used so_far from =
    let all = joined goes_on export text replied old new piece out used next.More so_far from in
    let e : length text + used ≡ length (text ++ piece) =
    ap (λ n. length text + n) (more_used old new piece out used from)
    ∙ sym (length-append text piece) in
    subst (λ n. HagglesFrom (initial_state export) (text ++ piece)
    (response_of (replied ++ out) n next.More) new) e all

-- the haggling ends with the piece, whatever follows
ends_with : GoesOn → EndsThere → (export : Export) (text replied : List ℕ) (old new : Haggling)
    (piece out : List ℕ) (used : ℕ) (shown : Next) (later : List ℕ) → shown ≢ next.More
    → Asks export text replied old → HagglesFrom old piece (response_of out used shown) new
    → Haggles export (text ++ (piece ++ later)) (replied ++ out) (end_at (length text + used) shown)
ends_with goes_on ends_there export text replied old new piece out used shown later ended so_far from =
    let all = joined goes_on export text replied old new piece out used shown so_far from in
    let response = response_of (replied ++ out) (length text + used) shown in
    let whole = ends_there (initial_state export) new (text ++ piece) later response ended all in
    record {
      response = response;
      new = new;
      from = subst (λ (xs : List ℕ). HagglesFrom (initial_state export) xs response new)
          (append_assoc text piece later) whole;
      out_is = refl;
      end_is = refl;
    }

-- the bytes after what is used
rest_after_used : (text piece later : List ℕ) (used : ℕ) → used ≤ length piece
    → drop (length text + used) (text ++ (piece ++ later)) ≡ drop used piece ++ later
rest_after_used text piece later used within =
    drop-append-add text (piece ++ later) used ∙ drop-append-le used piece later within

read_after : (text piece later rest : List ℕ) (used : ℕ) (requests : List Message)
    → used ≤ length piece → Begins 0 (drop used piece ++ later) requests rest
    → AreRead (haggle.Transmit (length text + used)) (text ++ (piece ++ later)) requests
read_after text piece later rest used requests within begins =
    (rest, rw (rest_after_used text piece later used within) begins)

-- the export stays
same_export : (export : Export) (text replied : List ℕ) (old new : Haggling) (piece out : List ℕ)
    (used : ℕ) (shown : Next) → Asks export text replied old
    → HagglesFrom old piece (response_of out used shown) new → new.export ≡ export
same_export export text replied old new piece out used shown so_far from =
    from.export_is ∙ so_far.export_is

nothing_answered : (before after : List Outstanding) (held : Outstanding) → [] ≡ before ++ held ∷ after → ⊥
nothing_answered [] after held e = cc
nothing_answered (x ∷ before) after held e = cc

-- the session after the haggling responded to a piece
abbrev pub responded : Limit → Next → Haggling → ℕ → List ℕ → List ℕ → Session
responded limit shown haggling used piece out = record {
  limit = limit;
  stage = stage_then shown;
  haggling = haggling;
  rest = request_bytes shown used piece;
  count = 0;
  outstanding = [];
  out = out;
}

-- the haggling goes on with the piece
goes_further : (export : Export) (limit : Limit) (text replied waiting piece out : List ℕ) (events : List Event)
    (new : Session) → Whole export limit (text ++ piece) (replied ++ out) (waiting ++ out) events new
    → Whole export limit text replied waiting (Fed piece ∷ events) new
goes_further export limit text replied waiting piece out events new whole = record {
  more = out ++ whole.more;
  end = whole.end;
  haggles =
      subst (λ (xs : List ℕ). Haggles export xs (replied ++ (out ++ whole.more)) whole.end)
      (append_assoc text piece (fed_bytes events))
      (subst (λ (xs : List ℕ). Haggles export ((text ++ piece) ++ fed_bytes events) xs whole.end)
      (append_assoc replied out whole.more) whole.haggles);
  out_is = whole.out_is
      ∙ append_assoc waiting out (whole.more ++ replies [] events)
      ∙ ap (λ (xs : List ℕ). waiting ++ xs) (sym (append_assoc out whole.more (replies [] events)));
  are_read = subst (λ (xs : List ℕ). AreRead whole.end xs (messages events))
      (append_assoc text piece (fed_bytes events)) whole.are_read;
  are_judged = whole.are_judged;
  last = whole.last;
}

-- transmission begins with the piece
transmits : GoesOn → EndsThere → (export : Export) (limit : Limit) (old mid : Haggling)
    (text replied waiting piece out : List ℕ) (used : ℕ) (events : List Event) (new : Session)
    → Asks export text replied old
    → HagglesFrom old piece (response_of out used next.Transmit) mid
    → Runs (responded limit next.Transmit mid used piece (waiting ++ out)) events new
    → Whole export limit text replied waiting (Fed piece ∷ events) new
transmits goes_on ends_there export limit old mid text replied waiting piece out used events new
    so_far from runs =
    let after = served events [] (responded limit next.Transmit mid used piece (waiting ++ out)) new
    refl (omega arith) tt runs in
    let within = (used_at next.Transmit old mid piece out used from).0 in
    let same = same_export export text replied old mid piece out used next.Transmit so_far from in
    let not_more : next.Transmit ≢ next.More = λ e. cc in
    record {
      more = out;
      end = haggle.Transmit (length text + used);
      haggles = ends_with goes_on ends_there export text replied old mid piece out used
          next.Transmit (fed_bytes events) not_more so_far from;
      out_is = after.out ∙ append_assoc waiting out (replies [] events);
      are_read = read_after text piece (fed_bytes events) after.rest used (messages events) within
          after.begins;
      are_judged = subst (λ (e : Export). AreJudged e limit 0 events) same after.judged;
      last = after.last;
    }

-- the session closes with the piece
closes : GoesOn → EndsThere → (export : Export) (limit : Limit) (old mid : Haggling)
    (text replied waiting piece out : List ℕ) (used : ℕ) (aborted : Bool) (events : List Event)
    (new : Session) → Asks export text replied old
    → HagglesFrom old piece (response_of out used (next.Close aborted)) mid
    → Runs (responded limit (next.Close aborted) mid used piece (waiting ++ out)) events new
    → Whole export limit text replied waiting (Fed piece ∷ events) new
closes goes_on ends_there export limit old mid text replied waiting piece out used aborted events new
    so_far from runs =
    let after = over events [] (responded limit (next.Close aborted) mid used piece (waiting ++ out))
    new _ refl tt runs in
    let not_more : next.Close aborted ≢ next.More = λ e. cc in
    record {
      more = out;
      end = haggle.Close (length text + used) aborted;
      haggles = ends_with goes_on ends_there export text replied old mid piece out used
          (next.Close aborted) (fed_bytes events) not_more so_far from;
      out_is = after.out ∙ append_assoc waiting out (replies [] events);
      are_read = nothing_asked events after.nothing;
      are_judged = nothing_judged export limit 0 events after.nothing;
      last = nothing_last events after.nothing;
    }

-- from any state of the haggling on
FromHere : List Event → Type 0
FromHere events =
    (export : Export) (limit : Limit) (haggling : Haggling) (text replied waiting : List ℕ)
    (new : Session) → Asks export text replied haggling
    → Runs (state_of limit haggling waiting) events new
    → Whole export limit text replied waiting events new

-- by what the piece is answered with
fed_on : GoesOn → EndsThere → (events : List Event) → FromHere events → (shown : Next)
    (export : Export) (limit : Limit) (old mid : Haggling)
    (text replied waiting piece out : List ℕ) (used : ℕ) (new : Session)
    → Asks export text replied old → HagglesFrom old piece (response_of out used shown) mid
    → Runs (responded limit shown mid used piece (waiting ++ out)) events new
    → Whole export limit text replied waiting (Fed piece ∷ events) new
unfolding FromHere
fed_on goes_on ends_there events later next.More export limit old mid text replied waiting piece out
    used new so_far from runs =
    goes_further export limit text replied waiting piece out events new
    (later export limit mid (text ++ piece) (replied ++ out) (waiting ++ out) new
    (asks_more goes_on export text replied old mid piece out used so_far from) runs)
fed_on goes_on ends_there events later next.Transmit export limit old mid text replied waiting piece
    out used new so_far from runs =
    transmits goes_on ends_there export limit old mid text replied waiting piece out used events new
    so_far from runs
fed_on goes_on ends_there events later (next.Close aborted) export limit old mid text replied waiting
    piece out used new so_far from runs =
    closes goes_on ends_there export limit old mid text replied waiting piece out used aborted events
    new so_far from runs

not_serving : stage.Haggling ≡ stage.Serving → ⊥
not_serving e = cc

stays : (export : Export) (limit : Limit) (haggling : Haggling) (text replied waiting : List ℕ)
    (new : Session) → Asks export text replied haggling → new ≡ state_of limit haggling waiting
    → Whole export limit text replied waiting [] new
stays export limit haggling text replied waiting new so_far runs = record {
  more = [];
  end = haggle.More;
  haggles = rw (append-nil text, append-nil replied) (record {
    response = response_of replied (length text) next.More;
    new = haggling;
    from = so_far;
    out_is = refl;
    end_is = refl;
  });
  out_is = ap (λ (s : Session). s.out) runs ∙ sym (append-nil waiting);
  are_read = refl;
  are_judged = tt;
  last = tt;
}

taken_on : (export : Export) (limit : Limit) (text replied waiting bytes : List ℕ) (events : List Event)
    (new : Session) → bytes ≡ waiting → Whole export limit text replied [] events new
    → Whole export limit text replied waiting (Took bytes ∷ events) new
taken_on export limit text replied waiting bytes events new is whole = record {
  more = whole.more;
  end = whole.end;
  haggles = whole.haggles;
  out_is = append_assoc bytes (taken_bytes events) new.out ∙ take_more bytes waiting _ _ is whole.out_is;
  are_read = whole.are_read;
  are_judged = whole.are_judged;
  last = whole.last;
}

pub haggled : GoesOn → EndsThere → (events : List Event) → (export : Export) (limit : Limit)
    (haggling : Haggling) (text replied waiting : List ℕ) (new : Session)
    → Asks export text replied haggling → Runs (state_of limit haggling waiting) events new
    → Whole export limit text replied waiting events new
unfolding FromHere
haggled goes_on ends_there [] export limit haggling text replied waiting new so_far runs =
    stays export limit haggling text replied waiting new so_far runs
haggled goes_on ends_there (Fed piece ∷ events) export limit haggling text replied waiting new
    so_far runs =
    let step = runs.1 in
    let response = step.response in
    fed_on goes_on ends_there events (haggled goes_on ends_there events) response.next export limit
    haggling step.haggling text replied waiting piece response.out response.used new so_far step.from
    (subst (λ (s : Session). Runs s events new) step.new_is runs.2)
haggled goes_on ends_there (Asked request judged ∷ events) export limit haggling text replied waiting
    new so_far runs = absurd (not_serving runs.1.reading.serving)
haggled goes_on ends_there (Stopped fault ∷ events) export limit haggling text replied waiting new
    so_far runs = absurd (not_serving runs.1.reading.serving)
haggled goes_on ends_there (Answered index outcome ∷ events) export limit haggling text replied
    waiting new so_far runs =
    absurd (nothing_answered runs.1.before runs.1.after runs.1.held runs.1.found)
haggled goes_on ends_there (Took bytes ∷ events) export limit haggling text replied waiting new
    so_far runs =
    taken_on export limit text replied waiting bytes events new runs.1.bytes_are
    (haggled goes_on ends_there events export limit haggling text replied [] new so_far
    (subst (λ (s : Session). Runs s events new) runs.1.new_is runs.2))
