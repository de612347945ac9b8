-- No request begins another: the header says how long the payload is.
use Rattle.std.proofs.Common.{◌≡◌, ℕ, ◌+◌, List, ◌++◌, length, take, drop, ap, sym, ◌∙◌, arith, append_assoc, length-append}
use Rattle.std.proofs.lemmas.List.{take_at, drop_at}
use Rattle.nm_wire.specs.Layout.{request_head_bytes}
use Rattle.nm_requests.specs.Message.{Message, IsMessage, message_bytes, payload_length}
use Rattle.nm_wire.proofs.Heads.{request_head_bytes-unique, length-request_head_bytes}

-- two prefixes of one length
pub prefixes_same : (a b x y : List ℕ) (n : ℕ) → length a ≡ n → length b ≡ n → a ++ x ≡ b ++ y
    → (a ≡ b) × (x ≡ y)
prefixes_same a b x y n la lb e = (
  sym (take_at a x n la) ∙ ap (take n) e ∙ take_at b y n lb,
  sym (drop_at a x n la)
      ∙ ap (drop n) e ∙ drop_at b y n lb,
)

pub one_message : (a b : Message) (x y : List ℕ) → IsMessage a → IsMessage b
    → message_bytes a ++ x ≡ message_bytes b ++ y → (a ≡ b) × (x ≡ y)
one_message a b x y fa fb e =
    let whole : request_head_bytes a.head ++ (a.payload ++ x) ≡ request_head_bytes b.head ++
    (b.payload ++ y) =
    sym (append_assoc (request_head_bytes a.head) a.payload x) ∙ e
    ∙ append_assoc (request_head_bytes b.head) b.payload y in
    let heads : (a.head ≡ b.head) × (a.payload ++ x ≡ b.payload ++ y) =
    request_head_bytes-unique a.head b.head (a.payload ++ x) (b.payload ++ y) fa.fits fb.fits
    whole in
    let parts : (a.payload ≡ b.payload) × (x ≡ y) =
    prefixes_same a.payload b.payload x y (payload_length b.head) (fa.whole
    ∙ ap payload_length heads.0) fb.whole heads.1 in
    (λ i. record { head = heads.0 i; payload = parts.0 i }, parts.1)

pub length-message_bytes : (message : Message) → IsMessage message
    → length (message_bytes message) ≡ 28 + payload_length message.head
length-message_bytes message valid =
    omega (
      arith,
      length-append (request_head_bytes message.head) message.payload,
      length-request_head_bytes message.head,
      valid.whole,
    )
