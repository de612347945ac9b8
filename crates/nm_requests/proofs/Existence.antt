-- Any bytes are a stream: what they begin with is read off the first 28 bytes.
use Rattle.std.proofs.Common.{◌≡◌, ◌≢◌, ℕ, zero, suc, ◌+◌, ◌^◌, ◌<◌, ◌≤◌, ◌⊎◌, List, [], ◌∷◌, ◌++◌, length, take, drop, slice_index, refl, ap, sym, subst, ◌∙◌, arith, inl, inr, Option, Some, None, length-append}
use Rattle.std.specs.Int.{w16, w32, w64, from_be_bytes}
use Rattle.std.proofs.Math.Seq.{take-add}
use Rattle.std.proofs.lemmas.Bool.{cases_lt}
use Rattle.std.proofs.lemmas.Bool.Decides.{eqb_tells}
use Rattle.std.proofs.lemmas.List.{take-append-drop, length-take-le, length-drop, drop_at}
use Rattle.std.proofs.lemmas.Nat.{be_bytes_2, be_bytes_4, be_bytes_8}
use Rattle.nm_wire.specs.declared.request_head.RequestHead.{RequestHead}
use Rattle.nm_wire.specs.Layout.{request_head_bytes, FitsRequestHead}
use Rattle.nm_wire.specs.Number.{be, request_magic}
use Rattle.nm_requests.specs.declared.fault.Fault.{Fault}
use Rattle.nm_requests.specs.declared.fault.Fault.TheVariants.{Magic, TooLong}
use Rattle.nm_wire.specs.Sizes.{max_payload}
use Rattle.nm_requests.specs.Message.{Message, message_bytes, payload_length}
use Rattle.nm_requests.specs.Stream.{StartsWith, EndsAs, IsStreamAfter, most_requests}
use Rattle.nm_requests.proofs.FirstRequest.{unfinished_from_short, unfinished_from_payload, starts_from_whole}
use Rattle.nm_requests.proofs.Messages.{length-message_bytes}
use Rattle.nm_requests.proofs.Streams.{stream_more, stream_ends}

abbrev pub AreBytes : List ℕ → Type 0
AreBytes bytes = (i : ℕ) → slice_index bytes i < 256

drop_fits : (n : ℕ) (bytes : List ℕ) → AreBytes bytes → AreBytes (drop n bytes)
drop_fits zero bytes fits i = fits i
drop_fits (suc n) [] fits i = omega arith
drop_fits (suc n) (b ∷ bytes) fits i = drop_fits n bytes (λ k. fits (suc k)) i

take_fits : (n : ℕ) (bytes : List ℕ) → AreBytes bytes → AreBytes (take n bytes)
take_fits zero bytes fits i = omega arith
take_fits (suc n) [] fits i = omega arith
take_fits (suc n) (b ∷ bytes) fits zero = fits 0
take_fits (suc n) (b ∷ bytes) fits (suc i) = take_fits n bytes (λ k. fits (suc k)) i

-- a part of the bytes
part : ℕ → ℕ → List ℕ → List ℕ
part at width bytes = take width (drop at bytes)

part_fits : (at width : ℕ) (bytes : List ℕ) → AreBytes bytes → AreBytes (part at width bytes)
unfolding part
part_fits at width bytes fits = take_fits width (drop at bytes) (drop_fits at bytes fits)

length-part : (at width : ℕ) (bytes : List ℕ) → at + width ≤ length bytes
    → length (part at width bytes) ≡ width
unfolding part
length-part at width bytes long = length-take-le width (drop at bytes) (omega
    (arith, length-drop at bytes))

part_2 : (bytes : List ℕ) → AreBytes bytes → length bytes ≡ 2
    → (from_be_bytes w16 bytes < 2 ^ 16) × (be 2 (from_be_bytes w16 bytes) ≡ bytes)
unfolding be
part_2 bytes fits two = (
  omega (arith, fits 0, fits 1),
  be_bytes_2 bytes
      (from_be_bytes w16 bytes) two fits refl,
)

part_4 : (bytes : List ℕ) → AreBytes bytes → length bytes ≡ 4
    → (from_be_bytes w32 bytes < 2 ^ 32) × (be 4 (from_be_bytes w32 bytes) ≡ bytes)
unfolding be
part_4 bytes fits four = (
  omega (arith, fits 0, fits 1, fits 2, fits 3),
  be_bytes_4 bytes
      (from_be_bytes w32 bytes) four fits refl,
)

part_8 : (bytes : List ℕ) → AreBytes bytes → length bytes ≡ 8
    → (from_be_bytes w64 bytes < 2 ^ 64) × (be 8 (from_be_bytes w64 bytes) ≡ bytes)
unfolding be
part_8 bytes fits eight = (
  omega (
    arith,
    fits 0,
    fits 1,
    fits 2,
    fits 3,
    fits 4,
    fits 5,
    fits 6,
    fits 7,
  ),
  be_bytes_8 bytes (from_be_bytes w64 bytes) eight fits refl,
)

-- the header that the first 28 bytes are, after the magic number
head_of : List ℕ → RequestHead
head_of bytes = record {
  flags = record { 0 = from_be_bytes w16 (part 4 2 bytes) };
  kind = from_be_bytes w16 (part 6 2 bytes);
  cookie = from_be_bytes w64 (part 8 8 bytes);
  offset = from_be_bytes w64 (part 16 8 bytes);
  length = from_be_bytes w32 (part 24 4 bytes);
}

first_28 : (bytes : List ℕ) → take 28 bytes ≡ take 4 bytes ++ part 4 2 bytes ++ part 6 2 bytes ++
    part 8 8 bytes ++ part 16 8 bytes ++ part 24 4 bytes
unfolding part
first_28 bytes =
    take-add 24 4 bytes ∙ ap (λ l. l ++ part 24 4 bytes)
    (take-add 16 8 bytes ∙ ap (λ l. l ++ part 16 8 bytes)
    (take-add 8 8 bytes ∙ ap (λ l. l ++ part 8 8 bytes)
    (take-add 6 2 bytes ∙ ap (λ l. l ++ part 6 2 bytes) (take-add 4 2 bytes))))

head_reads : (bytes : List ℕ) → AreBytes bytes → 28 ≤ length bytes
    → take 4 bytes ≡ be 4 request_magic
    → (bytes ≡ request_head_bytes (head_of bytes) ++ drop 28 bytes) × FitsRequestHead
    (head_of bytes)
unfolding request_head_bytes head_of
head_reads bytes fits long magic =
    let flags = part_2 (part 4 2 bytes) (part_fits 4 2 bytes fits) (length-part 4 2 bytes
    (omega arith)) in
    let kind = part_2 (part 6 2 bytes) (part_fits 6 2 bytes fits) (length-part 6 2 bytes
    (omega arith)) in
    let cookie = part_8 (part 8 8 bytes) (part_fits 8 8 bytes fits) (length-part 8 8 bytes
    (omega arith)) in
    let offset = part_8 (part 16 8 bytes) (part_fits 16 8 bytes fits) (length-part 16 8 bytes
    (omega arith)) in
    let len = part_4 (part 24 4 bytes) (part_fits 24 4 bytes fits) (length-part 24 4 bytes
    (omega arith)) in
    let prefix : take 28 bytes ≡ request_head_bytes (head_of bytes) =
    first_28 bytes ∙ (λ i. magic i ++ sym flags.1 i ++ sym kind.1 i ++ sym cookie.1 i ++ sym
    offset.1 i ++ sym len.1 i) in (
      sym (take-append-drop 28 bytes) ∙ ap (λ l. l ++ drop 28 bytes) prefix,
      record {
        flags = flags.0;
        kind = kind.0;
        cookie = cookie.0;
        offset = offset.0;
        length =
            len.0;
      },
    )

magic_or_not : (bytes : List ℕ) → AreBytes bytes → length bytes ≡ 4
    → (bytes ≡ be 4 request_magic) ⊎ (bytes ≢ be 4 request_magic)
unfolding be
magic_or_not bytes fits four =
    elim (eqb_tells (from_be_bytes w32 bytes) request_magic) [
      | inl same ↦ inl (sym (part_4 bytes fits four).1 ∙ ap (be 4) same.1)
      | inr other ↦ inr (λ e. other.1 (ap (from_be_bytes w32) e))
    ]

-- a request, or an end
First : ℕ → List ℕ → Type 0
First before bytes =
    ((message : Message) × (after : List ℕ) × StartsWith before bytes message after)
    ⊎ ((end : Option Fault) × EndsAs before bytes end)

first_after_head : (before : ℕ) (bytes : List ℕ) (head : RequestHead)
    → bytes ≡ request_head_bytes head ++ drop 28 bytes
    → FitsRequestHead head → before < most_requests → First before bytes
unfolding First
first_after_head before bytes head whole fits few =
    elim (cases_lt max_payload (payload_length head)) [
      | inl long ↦ inr (
        Some TooLong,
        record {
          head = head;
          after = drop 28 bytes;
          whole =
              whole;
          fits = fits;
          long = long;
          few = few;
        },
      )
      | inr short ↦ elim (cases_lt (length bytes) (28 + payload_length head)) [
        | inl missing ↦ inr (
          None,
          unfinished_from_payload before bytes head whole fits few short
              missing,
        )
        | inr payload ↦ inl (
          record { head = head; payload = take (payload_length head) (drop 28 bytes) },
          drop (28 + payload_length head) bytes,
          starts_from_whole before bytes head (record {
            whole = whole;
            fits = fits;
            short =
                short;
            payload = payload;
            few = few;
          }),
        )
      ]
    ]

first_of : (before : ℕ) (bytes : List ℕ) → AreBytes bytes → before ≤ most_requests
    → First before bytes
unfolding First
first_of before bytes fits most =
    elim (cases_lt (length bytes) 28) [
      | inl short ↦ inr (None, unfinished_from_short before bytes short)
      | inr long ↦ elim (cases_lt before most_requests) [
        | inl few ↦ elim (magic_or_not (take 4 bytes) (take_fits 4 bytes fits)
            (length-take-le 4 bytes (omega arith))) [
              | inl magic ↦
                  let reads = head_reads bytes fits long magic in
                  first_after_head before bytes (head_of bytes) reads.0 reads.1 few
              | inr other ↦ inr (Some Magic, (long, inl other))
            ]
        | inr full ↦ inr (Some Magic, (long, inr (omega arith)))
      ]
    ]

after_fits : (before : ℕ) (bytes : List ℕ) (message : Message) (after : List ℕ)
    → StartsWith before bytes message after → AreBytes bytes → AreBytes after
after_fits before bytes message after starts fits =
    let rest : drop (length (message_bytes message)) bytes ≡ after =
    ap (drop (length (message_bytes message))) starts.whole
    ∙ drop_at (message_bytes message) after (length (message_bytes message)) refl in
    subst AreBytes rest (drop_fits (length (message_bytes message)) bytes fits)

-- a request takes some of the bytes
after_shorter : (before : ℕ) (bytes : List ℕ) (message : Message) (after : List ℕ)
    → StartsWith before bytes message after → length after < length bytes
after_shorter before bytes message after starts =
    omega (
      arith,
      ap length starts.whole,
      length-append
          (message_bytes message) after,
      length-message_bytes message starts.valid,
    )

-- some requests and an end
Some_stream : ℕ → List ℕ → Type 0
Some_stream before bytes = (messages : List Message) ×
    (end : Option Fault) × IsStreamAfter before bytes messages end

stream_within : (fuel before : ℕ) (bytes : List ℕ) → length bytes < fuel → AreBytes bytes
    → before ≤ most_requests → Some_stream before bytes
unfolding Some_stream First
stream_within zero before bytes small fits most = absurd (omega arith)
stream_within (suc fuel) before bytes small fits most =
    elim (first_of before bytes fits most) [
      | inl request ↦
          let later = stream_within fuel (before + 1) request.1 (omega
          (arith, after_shorter before bytes request.0 request.1 request.2))
          (after_fits before bytes request.0 request.1 request.2 fits) (omega
          (arith, request.2.few)) in (
            request.0 ∷ later.0,
            later.1,
            stream_more before bytes request.1 request.0 later.0 later.1
                request.2 later.2,
          )
      | inr end ↦ ([], end.0, stream_ends before bytes end.0 most end.1)
    ]

pub some_stream : (bytes : List ℕ) → AreBytes bytes
    → (messages : List Message) × (end : Option Fault) × IsStreamAfter 0 bytes messages end
unfolding Some_stream
some_stream bytes fits = stream_within (length bytes + 1) 0 bytes (omega arith) fits (omega arith)
