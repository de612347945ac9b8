-- What a run of calls handed out is the beginning of what it bytes_fed.
use Rattle.std.proofs.Common.{◌≡◌, ℕ, ◌+◌, ◌≤◌, ◌⊎◌, List, [], ◌∷◌, ◌++◌, length, refl, ap, sym, subst, ◌∙◌, arith, append_assoc, inl, inr, Option, Some, None}
use Rattle.std.proofs.lemmas.List.{append-nil}
use Rattle.nm_requests.specs.declared.fault.Fault.{Fault}
use Rattle.nm_requests.specs.Message.{Message, message_bytes}
use Rattle.nm_requests.specs.Stream.{Begins, EndsAs, IsStreamAfter, IsStream, most_requests}
use Rattle.nm_requests.specs.Reader.{Unread, IsUnchanged, Call, Fed, HandedOut, Starved, Stopped, Refused, Reserved, Runs, bytes_fed, requests_out, IsNew, Stops, Step}
use Rattle.nm_requests.proofs.Streams.{begins_more, taken_is_first, one_end}

-- from any state: what was unread and what was bytes_fed begin with what was handed out
pub record Keeps (old : Unread) (calls : List Call) (new : Unread) : Type 0 where
  pub begins : Begins old.count (old.rest ++ bytes_fed calls) (requests_out calls) new.rest
  pub count : new.count ≡ old.count + length (requests_out calls)

begins_at : (m n : ℕ) (bytes other : List ℕ) (messages : List Message) (rest : List ℕ) → m ≡ n
    → bytes ≡ other → Begins m bytes messages rest → Begins n other messages rest
begins_at m n bytes other messages rest same e begins =
    subst (λ k. Begins k other messages rest) same (subst (λ l. Begins m l messages rest) e begins)

-- a call that hands out nothing and feeds these bytes
keeps_quiet : (old mid new : Unread) (piece : List ℕ) (calls : List Call)
    → mid.count ≡ old.count → mid.rest ≡ old.rest ++ piece → Keeps mid calls new
    → Begins old.count (old.rest ++ (piece ++ bytes_fed calls)) (requests_out calls) new.rest ×
    (new.count ≡ old.count + length (requests_out calls))
keeps_quiet old mid new piece calls count rest keeps = (
  begins_at mid.count old.count (mid.rest ++ bytes_fed calls) (old.rest ++ (piece ++ bytes_fed calls))
      (requests_out calls) new.rest count
      (ap (λ l. l ++ bytes_fed calls) rest ∙ append_assoc old.rest piece (bytes_fed calls)) keeps.begins,
  keeps.count ∙ ap (λ n. n + length (requests_out calls)) count,
)

keeps_unchanged : (old mid new : Unread) (calls : List Call) → IsUnchanged old mid
    → Keeps mid calls new
    → Begins old.count (old.rest ++ bytes_fed calls) (requests_out calls) new.rest ×
    (new.count ≡ old.count + length (requests_out calls))
keeps_unchanged old mid new calls same keeps =
    keeps_quiet old mid new [] calls same.count (same.rest ∙ sym (append-nil old.rest)) keeps

pub runs_keep : (old : Unread) (calls : List Call) (new : Unread) → old.count ≤ most_requests
    → Runs old calls new → Keeps old calls new
runs_keep old [] new small same = record {
  begins = record { whole = append-nil old.rest ∙ sym same.rest; valid = tt; few = omega arith };
  count = same.count ∙ omega arith;
}
runs_keep old (Fed piece ∷ calls) new small run =
    let kept = keeps_quiet old run.0 new piece calls run.1.count run.1.rest
    (runs_keep run.0 calls new (omega (arith, run.1.count)) run.2) in
    record { begins = kept.0; count = kept.1 }
runs_keep old (HandedOut message ∷ calls) new small run =
    let later = runs_keep run.0 calls new (omega (arith, run.1.count, run.1.first.few)) run.2 in
    record {
      begins = begins_more old.count (old.rest ++ bytes_fed calls) (run.0.rest ++ bytes_fed calls) message
          (requests_out calls) new.rest
          (record {
            whole = ap (λ l. l ++ bytes_fed calls) run.1.first.whole
                ∙ append_assoc (message_bytes message) run.0.rest (bytes_fed calls);
            valid = run.1.first.valid;
            few = run.1.first.few;
          })
          (begins_at run.0.count (old.count + 1) _ _
          (requests_out calls) new.rest run.1.count refl later.begins);
      count = omega (arith, later.count, run.1.count);
    }
runs_keep old (Starved ∷ calls) new small run =
    let kept = keeps_unchanged old run.0 new calls run.1.unchanged (runs_keep run.0 calls new
    (omega (arith, run.1.unchanged.count)) run.2) in
    record { begins = kept.0; count = kept.1 }
runs_keep old (Stopped fault ∷ calls) new small run =
    let kept = keeps_quiet old run.0 new [] calls run.1.count (run.1.rest
    ∙ sym (append-nil old.rest)) (runs_keep run.0 calls new (omega
    (arith, run.1.count)) run.2) in
    record { begins = kept.0; count = kept.1 }
runs_keep old (Reserved ∷ calls) new small run =
    let kept = keeps_unchanged old run.0 new calls run.1 (runs_keep run.0 calls new (omega
    (arith, run.1.count)) run.2) in
    record { begins = kept.0; count = kept.1 }
runs_keep old (Refused ∷ calls) new small run =
    let kept = keeps_unchanged old run.0 new calls run.1.unchanged (runs_keep run.0 calls new (omega
    (arith, run.1.unchanged.count)) run.2) in
    record { begins = kept.0; count = kept.1 }

-- from a new reader
pub so_far : (reader : Unread) (calls : List Call) (new : Unread) → IsNew reader
    → Runs reader calls new
    → Begins 0 (bytes_fed calls) (requests_out calls) new.rest × (new.count ≡ length (requests_out calls))
so_far reader calls new fresh run =
    let kept = runs_keep reader calls new (omega (arith, fresh.count)) run in (
      begins_at reader.count 0 (reader.rest ++ bytes_fed calls) (bytes_fed calls)
          (requests_out calls) new.rest fresh.count (ap (λ l. l ++ bytes_fed calls) fresh.rest) kept.begins,
      omega (arith, kept.count, fresh.count),
    )

pub requests_out_first : (reader : Unread) (calls : List Call) (new : Unread)
    (messages : List Message) (end : Option Fault)
    → IsNew reader → Runs reader calls new → IsStream (bytes_fed calls) messages end
    → (later : List Message) × (messages ≡ requests_out calls ++ later) × IsStreamAfter new.count
    new.rest later end
requests_out_first reader calls new messages end fresh run stream =
    let far = so_far reader calls new fresh run in
    let first = taken_is_first 0 (bytes_fed calls) (requests_out calls) messages new.rest end far.0 stream
    in (
      first.0,
      first.1,
      subst (λ n. IsStreamAfter n new.rest first.0 end) (omega
          (arith, far.1)) first.2,
    )

pub requests_out_all : (reader : Unread) (calls : List Call) (new : Unread) (end : Option Fault)
    → IsNew reader → Runs reader calls new → EndsAs new.count new.rest end
    → IsStream (bytes_fed calls) (requests_out calls) end
requests_out_all reader calls new end fresh run ends =
    let far = so_far reader calls new fresh run in
    record {
      rest = new.rest;
      begins = far.0;
      ends = subst (λ n. EndsAs n new.rest end) (omega (arith, far.1)) ends;
    }

apart : (reader : Unread) (fault : Fault) → reader.fault ≡ Some fault → reader.fault ≡ None → ⊥
apart reader fault stopped going = cc

-- after a fault each call answers it again, but for one that makes room
pub stays_stopped : (old mid new : Unread) (fault : Fault) (call : Call)
    → Stops old fault mid → Step mid call new → (call ≡ Stopped fault) ⊎ (call ≡ Reserved)
stays_stopped old mid new fault Reserved stops step = inr refl
stays_stopped old mid new fault (Fed piece) stops step =
    absurd (apart mid fault stops.fault step.was_open)
stays_stopped old mid new fault (HandedOut message) stops step =
    absurd (apart mid fault stops.fault step.was_open)
stays_stopped old mid new fault Starved stops step =
    absurd (apart mid fault stops.fault step.was_open)
stays_stopped old mid new fault Refused stops step =
    absurd (apart mid fault stops.fault step.was_open)
stays_stopped old mid new fault (Stopped other) stops step =
    let here : EndsAs mid.count mid.rest (Some fault) =
    subst (λ n. EndsAs n mid.rest (Some fault)) (sym stops.count)
    (subst (λ l. EndsAs old.count l (Some fault)) (sym stops.rest) stops.ends) in
    let same : Some fault ≡ Some other = one_end mid.count mid.rest (Some fault)
    (Some other) here step.ends in
    let faults : fault ≡ other = cc in
    inl (ap Stopped (sym faults))
