-- What a whole header says of the first request: it is there, or its payload is not whole.
use Rattle.std.proofs.Common.{◌≡◌, ℕ, ◌+◌, ◌<◌, ◌≤◌, List, [], ◌++◌, length, take, drop, ap, sym, subst, ◌∙◌, arith, append_assoc, length-append}
use Rattle.std.proofs.lemmas.List.{take-append-drop, take-append-le, take_at, drop-drop, length-take-le, length-drop}
use Rattle.nm_wire.specs.declared.request_head.RequestHead.{RequestHead}
use Rattle.nm_wire.specs.Layout.{request_head_bytes, FitsRequestHead}
use Rattle.nm_wire.specs.Sizes.{max_payload}
use Rattle.nm_requests.specs.Message.{Message, message_bytes, payload_length}
use Rattle.nm_requests.specs.Stream.{StartsWith, IsUnfinished, most_requests}
use Rattle.nm_requests.specs.First.{HasWhole, HasPayload}
use Rattle.nm_wire.proofs.Heads.{request_head_bytes-unique, length-request_head_bytes}
use Rattle.nm_requests.proofs.Messages.{length-message_bytes}
use Rattle.nm_requests.proofs.Streams.{head_is_no_wrong_magic, request_whole}

-- the first request has come whole
starts_length : (before : ℕ) (bytes : List ℕ) (message : Message) (after : List ℕ)
    → StartsWith before bytes message after
    → 28 + payload_length message.head ≤ length bytes
starts_length before bytes message after starts =
    omega (
      arith,
      ap length starts.whole,
      length-append
          (message_bytes message) after,
      length-message_bytes message starts.valid,
    )

pub nothing_starts : (before : ℕ) (message : Message) (after : List ℕ)
    → StartsWith before [] message after → ⊥
nothing_starts before message after starts =
    absurd (omega (arith, starts_length before [] message after starts))

-- its header is the one that the bytes begin with
starts_head : (before : ℕ) (bytes : List ℕ) (message : Message) (after : List ℕ)
    (head : RequestHead) (rest : List ℕ)
    → StartsWith before bytes message after → bytes ≡ request_head_bytes head ++ rest
    → FitsRequestHead head → message.head ≡ head
starts_head before bytes message after head rest starts whole fits =
    (request_head_bytes-unique message.head head (message.payload ++ after) rest starts.valid.fits
    fits
    (sym (request_whole message after) ∙ sym starts.whole ∙ whole)).0

pub unfinished_from_short : (before : ℕ) (bytes : List ℕ) → length bytes < 28
    → IsUnfinished before bytes
unfinished_from_short before bytes short = record {
  no_request = λ message after starts. absurd (omega
      (arith, starts_length before bytes message after starts));
  no_wrong_magic = λ wrong. absurd (omega (arith, wrong.0));
  none_too_long = λ long. absurd (omega (
    arith,
    ap length long.whole,
    length-append
        (request_head_bytes long.head) long.after,
    length-request_head_bytes long.head,
  ));
}

pub unfinished_from_payload : (before : ℕ) (bytes : List ℕ) (head : RequestHead)
    → bytes ≡ request_head_bytes head ++ drop 28 bytes → FitsRequestHead head
    → before < most_requests
    → payload_length head ≤ max_payload → length bytes < 28 + payload_length head
    → IsUnfinished before bytes
unfinished_from_payload before bytes head whole fits few short missing = record {
  no_request = λ message after starts.
      let same : payload_length message.head ≡ payload_length head =
      ap payload_length (starts_head before bytes message after head
      (drop 28 bytes) starts whole fits) in
      absurd (omega (arith, starts_length before bytes message after starts, same));
  no_wrong_magic = λ wrong. head_is_no_wrong_magic before bytes
      (drop 28 bytes) head whole few wrong;
  none_too_long = λ long.
      let same : payload_length long.head ≡ payload_length head =
      ap payload_length (request_head_bytes-unique long.head head long.after
      (drop 28 bytes) long.fits fits (sym long.whole ∙ whole)).0 in
      absurd (omega (arith, long.long, same));
}

pub starts_from_whole : (before : ℕ) (bytes : List ℕ) (head : RequestHead)
    → HasWhole before bytes head
    → StartsWith before bytes (record {
      head = head;
      payload =
          take (payload_length head) (drop 28 bytes);
    }) (drop (28 + payload_length head) bytes)
starts_from_whole before bytes head has =
    let n = payload_length head in
    let parts : drop 28 bytes ≡ take (payload_length head) (drop 28 bytes) ++ drop
    (28 + payload_length head) bytes =
    sym (take-append-drop (payload_length head) (drop 28 bytes))
    ∙ ap (λ l. take (payload_length head) (drop 28 bytes) ++ l) (drop-drop
    (payload_length head) 28 bytes) in
    let room : payload_length head ≤ length (drop 28 bytes) =
    omega (arith, length-drop 28 bytes, has.payload) in
    record {
      whole = has.whole ∙ ap (λ l. request_head_bytes head ++ l) parts
          ∙ sym (append_assoc (request_head_bytes head) (take (payload_length head)
          (drop 28 bytes)) (drop (28 + payload_length head) bytes));
      valid = record {
        fits = has.fits;
        whole =
            length-take-le (payload_length head) (drop 28 bytes) room;
        short = has.short;
      };
      few = has.few;
    }

-- where the payload is what was cut and the rest is what follows it
pub starts_from_cut : (before : ℕ) (bytes payload after : List ℕ) (head : RequestHead)
    → HasWhole before bytes head
    → payload ≡ take (payload_length head) (drop 28 bytes)
    → after ≡ drop (28 + payload_length head) bytes
    → StartsWith before bytes (record { head = head; payload = payload }) after
starts_from_cut before bytes payload after head has cut rest =
    subst (λ l. StartsWith before bytes (record { head = head; payload = l }) after) (sym cut)
    (subst (λ l. StartsWith before bytes (record {
      head = head;
      payload =
          take (payload_length head) (drop 28 bytes);
    }) l) (sym rest)
    (starts_from_whole before bytes head has))

pub payload_from_whole : (before : ℕ) (bytes : List ℕ) (head : RequestHead)
    → HasWhole before bytes head → 0 < payload_length head → HasPayload before bytes
payload_from_whole before bytes head has some =
    let starts = starts_from_whole before bytes head has in
    record {
      message = record { head = head; payload = take (payload_length head) (drop 28 bytes) };
      after = drop (28 + payload_length head) bytes;
      starts = starts;
      payload = omega (arith, starts.valid.whole);
    }

-- as many bytes complete the first request as its header says
pub missing_from_head : (before : ℕ) (bytes more : List ℕ) (message : Message) (head : RequestHead)
    → bytes ≡ request_head_bytes head ++ drop 28 bytes → FitsRequestHead head
    → StartsWith before (bytes ++ more) message []
    → (length bytes + length more ≡ 28 + payload_length head) ×
    (payload_length head ≤ max_payload)
missing_from_head before bytes more message head whole fits starts =
    let same : message.head ≡ head =
    starts_head before (bytes ++ more) message [] head (drop 28 bytes ++ more) starts
    (ap (λ l. l ++ more) whole ∙ append_assoc (request_head_bytes head)
    (drop 28 bytes) more) fits in
    let lengths : payload_length message.head ≡ payload_length head = ap payload_length same in (
      omega (
        arith,
        ap length starts.whole,
        length-append bytes more,
        length-append
            (message_bytes message) [],
        length-message_bytes message starts.valid,
        lengths,
      ),
      omega (arith, starts.valid.short, lengths),
    )

pub head_from_more : (before : ℕ) (bytes more : List ℕ) (message : Message) (after : List ℕ)
    → 28 ≤ length bytes → StartsWith before (bytes ++ more) message after
    → bytes ≡ request_head_bytes message.head ++ drop 28 bytes
head_from_more before bytes more message after long starts =
    let prefix : take 28 bytes ≡ request_head_bytes message.head =
    sym (take-append-le 28 bytes more long) ∙ ap (take 28) (starts.whole
    ∙ request_whole message after)
    ∙ take_at (request_head_bytes message.head) (message.payload ++ after) 28
    (length-request_head_bytes message.head) in
    sym (take-append-drop 28 bytes) ∙ ap (λ l. l ++ drop 28 bytes) prefix
