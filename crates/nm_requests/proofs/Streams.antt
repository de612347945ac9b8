-- A stream is read in one way: it begins with a request or an end, and with only one of these.
use Rattle.std.proofs.Common.{◌≡◌, ℕ, ◌+◌, ◌<◌, ◌≤◌, List, [], ◌∷◌, ◌++◌, length, take, refl, ap, sym, subst, ◌∙◌, arith, append_assoc, length-append, inl, inr, Option, Some, None}
use Rattle.std.proofs.lemmas.List.{append-nil, take-append-le}
use Rattle.std.specs.List.{flat_map}
use Rattle.nm_wire.specs.Layout.{request_head_bytes}
use Rattle.nm_requests.specs.declared.fault.Fault.{Fault}
use Rattle.nm_requests.specs.declared.fault.Fault.TheVariants.{Magic, TooLong, Memory}
use Rattle.nm_wire.specs.Sizes.{max_payload}
use Rattle.nm_requests.specs.Message.{Message, message_bytes, payload_length}
use Rattle.nm_requests.specs.Stream.{StartsWith, Begins, IsWrongMagic, EndsAs, IsStreamAfter, most_requests}
use Rattle.nm_wire.proofs.Heads.{request_head_bytes-unique, request_head_bytes-magic}
use Rattle.nm_requests.proofs.Messages.{one_message}

-- ---- what the bytes begin with

pub head_is_no_wrong_magic : (before : ℕ) (bytes after : List ℕ) (head : _)
    → bytes ≡ request_head_bytes head ++ after → before < most_requests
    → IsWrongMagic before bytes → ⊥
head_is_no_wrong_magic before bytes after head whole few wrong =
    elim wrong.1 [
      | inl other ↦ other (ap (take 4) whole ∙ request_head_bytes-magic head after)
      | inr full ↦ absurd (omega arith)
    ]

pub request_whole : (message : Message) (after : List ℕ)
    → message_bytes message ++ after ≡ request_head_bytes message.head ++ (message.payload ++ after)
request_whole message after = append_assoc (request_head_bytes message.head) message.payload after

pub request_is_no_end : (before : ℕ) (bytes after : List ℕ) (message : Message) (end : Option Fault)
    → StartsWith before bytes message after → EndsAs before bytes end → ⊥
request_is_no_end before bytes after message None starts ends = ends.no_request message after starts
request_is_no_end before bytes after message (Some Magic) starts ends =
    head_is_no_wrong_magic before bytes (message.payload ++ after) message.head (starts.whole
    ∙ request_whole message after) starts.few ends
request_is_no_end before bytes after message (Some TooLong) starts ends =
    let heads : message.head ≡ ends.head =
    (request_head_bytes-unique message.head ends.head (message.payload ++ after) ends.after
    starts.valid.fits ends.fits
    (sym (request_whole message after) ∙ sym starts.whole ∙ ends.whole)).0 in
    let short : payload_length ends.head ≤ max_payload =
    subst (λ head. payload_length head ≤ max_payload) heads starts.valid.short in
    absurd (omega (arith, ends.long, short))
request_is_no_end before bytes after message (Some Memory) starts ends = ends

pub one_end : (before : ℕ) (bytes : List ℕ) (e f : Option Fault) → EndsAs before bytes e
    → EndsAs before bytes f → e ≡ f
one_end before bytes None None a b = refl
one_end before bytes None (Some Magic) a b = absurd (a.no_wrong_magic b)
one_end before bytes None (Some TooLong) a b = absurd (a.none_too_long b)
one_end before bytes None (Some Memory) a b = absurd b
one_end before bytes (Some Magic) None a b = absurd (b.no_wrong_magic a)
one_end before bytes (Some Magic) (Some Magic) a b = refl
one_end before bytes (Some Magic) (Some TooLong) a b =
    absurd (head_is_no_wrong_magic before bytes b.after b.head b.whole b.few a)
one_end before bytes (Some Magic) (Some Memory) a b = absurd b
one_end before bytes (Some TooLong) None a b = absurd (b.none_too_long a)
one_end before bytes (Some TooLong) (Some Magic) a b =
    absurd (head_is_no_wrong_magic before bytes a.after a.head a.whole a.few b)
one_end before bytes (Some TooLong) (Some TooLong) a b = refl
one_end before bytes (Some TooLong) (Some Memory) a b = absurd b
one_end before bytes (Some Memory) f a b = absurd a

-- ---- one request more

pub begins_first : (before : ℕ) (bytes : List ℕ) (message : Message) (messages : List Message)
    (rest : List ℕ)
    → Begins before bytes (message ∷ messages) rest
    → StartsWith before bytes message (flat_map message_bytes messages ++ rest) × Begins
    (before + 1) (flat_map message_bytes messages ++ rest) messages rest
begins_first before bytes message messages rest begins =
    let few : before + (length messages + 1) ≤ most_requests = omega (arith, begins.few) in (
      record {
        whole = begins.whole ∙ append_assoc (message_bytes message)
            (flat_map message_bytes messages) rest;
        valid = begins.valid.0;
        few = omega (arith, few);
      },
      record { whole = refl; valid = begins.valid.1; few = omega (arith, few) },
    )

pub begins_more : (before : ℕ) (bytes after : List ℕ) (message : Message)
    (messages : List Message) (rest : List ℕ)
    → StartsWith before bytes message after → Begins (before + 1) after messages rest
    → Begins before bytes (message ∷ messages) rest
begins_more before bytes after message messages rest starts begins = record {
  whole = starts.whole ∙ ap (λ l. message_bytes message ++ l) begins.whole
      ∙ sym (append_assoc (message_bytes message) (flat_map message_bytes messages) rest);
  valid = (starts.valid, begins.valid);
  few = omega (arith, begins.few);
}

ends_at : (m n : ℕ) (rest : List ℕ) (end : Option Fault) → m ≡ n → EndsAs m rest end
    → EndsAs n rest end
ends_at m n rest end same ends = subst (λ k. EndsAs k rest end) same ends

pub stream_first : (before : ℕ) (bytes : List ℕ) (message : Message) (messages : List Message)
    (end : Option Fault)
    → IsStreamAfter before bytes (message ∷ messages) end
    → (after : List ℕ) × StartsWith before bytes message after × IsStreamAfter
    (before + 1) after messages end
stream_first before bytes message messages end stream =
    let first = begins_first before bytes message messages stream.rest stream.begins in (
      flat_map message_bytes messages ++ stream.rest,
      first.0,
      record {
        rest = stream.rest;
        begins = first.1;
        ends = ends_at _ _ stream.rest end (omega arith) stream.ends;
      },
    )

pub stream_more : (before : ℕ) (bytes after : List ℕ) (message : Message)
    (messages : List Message) (end : Option Fault)
    → StartsWith before bytes message after → IsStreamAfter (before + 1) after messages end
    → IsStreamAfter before bytes (message ∷ messages) end
stream_more before bytes after message messages end starts stream = record {
  rest = stream.rest;
  begins = begins_more before bytes after message messages stream.rest starts stream.begins;
  ends = ends_at _ _ stream.rest end (omega arith) stream.ends;
}

pub stream_ends : (before : ℕ) (bytes : List ℕ) (end : Option Fault) → before ≤ most_requests
    → EndsAs before bytes end → IsStreamAfter before bytes [] end
stream_ends before bytes end few ends = record {
  rest = bytes;
  begins = record { whole = refl; valid = tt; few = omega arith };
  ends = ends_at before (before + 0) bytes end (omega arith) ends;
}

-- ---- requests that the bytes begin with are the first of the stream

stream_along : (before k : ℕ) (bytes other : List ℕ) (messages : List Message)
    (end : Option Fault) → before ≡ k → bytes ≡ other → IsStreamAfter before bytes messages end
    → IsStreamAfter k other messages end
stream_along before k bytes other messages end same e stream =
    subst (λ n. IsStreamAfter n other messages end) same (subst
    (λ l. IsStreamAfter before l messages end) e stream)

pub taken_is_first : (before : ℕ) (bytes : List ℕ) (taken messages : List Message)
    (rest : List ℕ) (end : Option Fault)
    → Begins before bytes taken rest → IsStreamAfter before bytes messages end
    → (later : List Message) × (messages ≡ taken ++ later) × IsStreamAfter
    (before + length taken) rest later end
taken_is_first before bytes [] messages rest end begins stream = (
  messages,
  refl,
  stream_along before (before + 0) bytes rest messages end
      (omega arith) begins.whole stream,
)
taken_is_first before bytes (m ∷ taken) [] rest end begins stream =
    let first = begins_first before bytes m taken rest begins in
    let here : EndsAs before bytes end =
    subst (λ l. EndsAs before l end) (sym stream.begins.whole) (ends_at _ _ stream.rest end
    (omega arith) stream.ends) in
    absurd (request_is_no_end before bytes (flat_map message_bytes taken ++ rest) m end first.0
    here)
taken_is_first before bytes (m ∷ taken) (n ∷ messages) rest end begins stream =
    let first = begins_first before bytes m taken rest begins in
    let next = stream_first before bytes n messages end stream in
    let same = one_message n m next.0 (flat_map message_bytes taken ++ rest) next.1.valid
    first.0.valid (sym next.1.whole ∙ first.0.whole) in
    let others = taken_is_first (before + 1) (flat_map message_bytes taken ++ rest) taken messages
    rest end first.1
    (stream_along (before + 1) (before + 1) next.0
    (flat_map message_bytes taken ++ rest) messages end refl same.1 next.2) in (
      others.0,
      (λ i. same.0 i ∷ others.1 i),
      stream_along (before + 1 + length taken) (before + length
          (m ∷ taken)) rest rest others.0 end (omega arith) refl others.2,
    )

-- after an end nothing is read
pub nothing_after : (before : ℕ) (rest : List ℕ) (later : List Message) (end other : Option Fault)
    → EndsAs before rest end → IsStreamAfter before rest later other → (later ≡ []) × (end ≡ other)
nothing_after before rest [] end other ends stream = (
  refl,
  one_end before rest end other ends (subst (λ l. EndsAs before l other)
      (sym stream.begins.whole) (ends_at _ _ stream.rest other (omega arith) stream.ends)),
)
nothing_after before rest (m ∷ later) end other ends stream =
    let first = stream_first before rest m later other stream in
    absurd (request_is_no_end before rest first.0 m end first.1 ends)

pub one_stream : (before : ℕ) (bytes : List ℕ) (messages others : List Message)
    (end other : Option Fault)
    → IsStreamAfter before bytes messages end → IsStreamAfter before bytes others other
    → (messages ≡ others) × (end ≡ other)
one_stream before bytes messages others end other a b =
    let more = taken_is_first before bytes messages others a.rest other a.begins b in
    let none = nothing_after (before + length messages) a.rest more.0 end other a.ends more.2 in
    (sym (append-nil messages) ∙ ap (λ l. messages ++ l) (sym none.0) ∙ sym more.1, none.1)

-- ---- more bytes

end_stays : (before : ℕ) (rest more : List ℕ) (fault : Fault) → EndsAs before rest (Some fault)
    → EndsAs before (rest ++ more) (Some fault)
end_stays before rest more Magic ends =
    let long : 28 ≤ length (rest ++ more) = omega (arith, ends.0, length-append rest more) in (
      long,
      elim ends.1 [
        | inl other ↦ inl (λ e. other (sym (take_long rest more ends.0) ∙ e))
        | inr full ↦ inr full
      ],
    )
  where
    take_long : (xs ys : List ℕ) → 28 ≤ length xs → take 4 (xs ++ ys) ≡ take 4 xs
    take_long xs ys h = take-append-le 4 xs ys (omega arith)
end_stays before rest more TooLong ends = record {
  head = ends.head;
  after = ends.after ++ more;
  whole = ap (λ l. l ++ more) ends.whole ∙ append_assoc
      (request_head_bytes ends.head) ends.after more;
  fits = ends.fits;
  long = ends.long;
  few = ends.few;
}
end_stays before rest more Memory ends = ends

pub begins_append : (before : ℕ) (bytes more : List ℕ) (messages : List Message) (rest : List ℕ)
    → Begins before bytes messages rest → Begins before (bytes ++ more) messages (rest ++ more)
begins_append before bytes more messages rest begins = record {
  whole = ap (λ l. l ++ more) begins.whole ∙ append_assoc
      (flat_map message_bytes messages) rest more;
  valid = begins.valid;
  few = begins.few;
}

pub stream_goes_on : (before : ℕ) (bytes more : List ℕ) (messages others : List Message)
    (end other : Option Fault)
    → IsStreamAfter before bytes messages end → IsStreamAfter before (bytes ++ more) others other
    → (later : List Message) × (others ≡ messages ++ later)
stream_goes_on before bytes more messages others end other a b =
    let more_of = taken_is_first before (bytes ++ more) messages others (a.rest ++ more) other
    (begins_append before bytes more messages a.rest a.begins) b in
    (more_of.0, more_of.1)

pub fault_stays : (before : ℕ) (bytes more : List ℕ) (messages : List Message) (fault : Fault)
    → IsStreamAfter before bytes messages (Some fault)
    → IsStreamAfter before (bytes ++ more) messages (Some fault)
fault_stays before bytes more messages fault stream = record {
  rest = stream.rest ++ more;
  begins = begins_append before bytes more messages stream.rest stream.begins;
  ends = end_stays (before + length messages) stream.rest more fault stream.ends;
}
