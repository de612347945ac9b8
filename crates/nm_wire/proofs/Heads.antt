-- The layouts of the headers: their lengths, and that bytes begin with at most one header of a kind.
use Rattle.std.proofs.Common.{◌≡◌, ℕ, ◌^◌, ◌<◌, ◌≤◌, List, [], ◌∷◌, ◌++◌, length, take, drop, refl, sym, ap, ◌∙◌, arith, length-append, lit<}
use Rattle.std.specs.Prelude.{◌≢◌}
use Rattle.std.proofs.lemmas.List.{append_assoc, take_at, take-append-drop}
use Rattle.nm_wire.specs.Number.{be, option_magic, option_reply_magic, request_magic, simple_reply_magic}
use Rattle.nm_wire.specs.Layout.{FitsOptionHead, FitsOptionReply, FitsRequestHead, FitsSimpleReply, option_head_bytes, option_reply_bytes, request_head_bytes, simple_reply_bytes}
use Rattle.nm_wire.specs.declared.option_head.OptionHead.{OptionHead}
use Rattle.nm_wire.specs.declared.option_reply.OptionReply.{OptionReply}
use Rattle.nm_wire.specs.declared.request_head.RequestHead.{RequestHead}
use Rattle.nm_wire.specs.declared.simple_reply.SimpleReply.{SimpleReply}
use Rattle.nm_wire.proofs.Numbers.{be-unique, be-injective, length-be}

-- bytes that begin with another number do not begin with the magic number
pub other-magic : (width read magic : ℕ) (bytes : List ℕ) → read < 256 ^ width → magic < 256 ^ width
    → take width bytes ≡ be width read → read ≢ magic → take width bytes ≢ be width magic
other-magic width read magic bytes fits magic_fits begins other same =
    other (be-injective width read magic fits magic_fits (sym begins ∙ same))

-- bytes are no shorter than what they begin with
pub no-shorter : (bytes first rest : List ℕ) → bytes ≡ first ++ rest → length first ≤ length bytes
no-shorter bytes first rest same = omega (arith, ap length same, length-append first rest)

-- bytes are their first ones, and then the rest
pub first-ones : (size : ℕ) (bytes first : List ℕ) → take size bytes ≡ first → bytes ≡ first ++ drop size bytes
first-ones size bytes first is =
    sym (take-append-drop size bytes) ∙ ap (λ (part : List ℕ). part ++ drop size bytes) is

-- a header's numbers one after the other, each in so many bytes, and what follows them
abbrev fields_before : {H : Type 0} → List (ℕ × (H → ℕ)) → H → List ℕ → List ℕ
fields_before [] head rest = rest
fields_before (field ∷ fields) head rest = be field.0 (field.1 head) ++ fields_before fields head rest

-- each of them fits its bytes
abbrev FitFields : {H : Type 0} → List (ℕ × (H → ℕ)) → H → Type 0
FitFields [] head = Unit {0}
FitFields (field ∷ fields) head = (field.1 head < 256 ^ field.0) × FitFields fields head

-- two headers are one where they have the same numbers
abbrev AreDetermined : {H : Type 0} → List (ℕ × (H → ℕ)) → H → H → Type 0
AreDetermined [] g h = g ≡ h
AreDetermined (field ∷ fields) g h = field.1 g ≡ field.1 h → AreDetermined fields g h

-- bytes begin with such a header in one way at most
fields-unique : {H : Type 0} (fields : List (ℕ × (H → ℕ))) (g h : H) (r s : List ℕ) → AreDetermined fields g h
    → FitFields fields g → FitFields fields h → fields_before fields g r ≡ fields_before fields h s → (g ≡ h) × (r ≡ s)
fields-unique [] g h r s determined g_fits h_fits same = (determined, same)
fields-unique (field ∷ fields) g h r s determined g_fits h_fits same =
    let first = be-unique field.0 (field.1 g) (field.1 h) _ _ g_fits.0 h_fits.0 same in
    fields-unique fields g h r s (determined first.0) g_fits.1 h_fits.1 first.1

-- an option's header has 16 bytes
pub length-option_head_bytes : (head : OptionHead) → length (option_head_bytes head) ≡ 16
unfolding option_head_bytes
length-option_head_bytes head = simp (length-append, length-be) refl

-- the header of a reply to an option has 20 bytes
pub length-option_reply_bytes : (reply : OptionReply) → length (option_reply_bytes reply) ≡ 20
unfolding option_reply_bytes
length-option_reply_bytes reply = simp (length-append, length-be) refl

-- a request's header has 28 bytes
pub length-request_head_bytes : (head : RequestHead) → length (request_head_bytes head) ≡ 28
unfolding request_head_bytes
length-request_head_bytes head = simp (length-append, length-be) refl

-- a simple reply's header has 16 bytes
pub length-simple_reply_bytes : (reply : SimpleReply) → length (simple_reply_bytes reply) ≡ 16
unfolding simple_reply_bytes
length-simple_reply_bytes reply = simp (length-append, length-be) refl

-- an option's header begins with its magic number
pub option_head_bytes-magic : (head : OptionHead) (rest : List ℕ) → take 8 (option_head_bytes head ++ rest) ≡ be 8 option_magic
unfolding option_head_bytes
option_head_bytes-magic head rest = simp append_assoc (take_at (be 8 option_magic) _ 8 (length-be 8 option_magic))

-- the header of a reply to an option begins with its magic number
pub option_reply_bytes-magic : (reply : OptionReply) (rest : List ℕ) → take 8 (option_reply_bytes reply ++ rest) ≡ be 8 option_reply_magic
unfolding option_reply_bytes
option_reply_bytes-magic reply rest = simp append_assoc (take_at (be 8 option_reply_magic) _ 8 (length-be 8 option_reply_magic))

-- a request's header begins with its magic number
pub request_head_bytes-magic : (head : RequestHead) (rest : List ℕ) → take 4 (request_head_bytes head ++ rest) ≡ be 4 request_magic
unfolding request_head_bytes
request_head_bytes-magic head rest = simp append_assoc (take_at (be 4 request_magic) _ 4 (length-be 4 request_magic))

-- a simple reply's header begins with its magic number
pub simple_reply_bytes-magic : (reply : SimpleReply) (rest : List ℕ) → take 4 (simple_reply_bytes reply ++ rest) ≡ be 4 simple_reply_magic
unfolding simple_reply_bytes
simple_reply_bytes-magic reply rest = simp append_assoc (take_at (be 4 simple_reply_magic) _ 4 (length-be 4 simple_reply_magic))

-- the numbers of an option's header
abbrev option_head_fields : List (ℕ × (OptionHead → ℕ))
option_head_fields = (8, (λ h. option_magic)) ∷ (4, (λ h. h.option)) ∷ (4, (λ h. h.length)) ∷ []

-- an option's header with these numbers
abbrev OptionHead-of : (option length : ℕ) → OptionHead
OptionHead-of option length = record { option = option; length = length }

-- bytes begin with an option's header in one way at most
pub option_head_bytes-unique : (g h : OptionHead) (r s : List ℕ) → FitsOptionHead g → FitsOptionHead h
    → option_head_bytes g ++ r ≡ option_head_bytes h ++ s → (g ≡ h) × (r ≡ s)
unfolding option_head_bytes
option_head_bytes-unique g h r s g_fits h_fits same =
    fields-unique option_head_fields g h r s
    (λ magic option length.
    let same : OptionHead-of g.option g.length
    ≡ OptionHead-of h.option h.length = rw (option, length) refl in same)
    (lit< tt, (g_fits.option, (g_fits.length, tt)))
    (lit< tt, (h_fits.option, (h_fits.length, tt)))
    (simp append_assoc at same)

-- the numbers of the header of a reply to an option
abbrev option_reply_fields : List (ℕ × (OptionReply → ℕ))
option_reply_fields =
    (8, (λ h. option_reply_magic)) ∷ (4, (λ h. h.option)) ∷ (4, (λ h. h.kind)) ∷ (4, (λ h. h.length)) ∷ []

-- the header of a reply to an option with these numbers
abbrev OptionReply-of : (option kind length : ℕ) → OptionReply
OptionReply-of option kind length = record { option = option; kind = kind; length = length }

-- bytes begin with the header of a reply to an option in one way at most
pub option_reply_bytes-unique : (g h : OptionReply) (r s : List ℕ) → FitsOptionReply g → FitsOptionReply h
    → option_reply_bytes g ++ r ≡ option_reply_bytes h ++ s → (g ≡ h) × (r ≡ s)
unfolding option_reply_bytes
option_reply_bytes-unique g h r s g_fits h_fits same =
    fields-unique option_reply_fields g h r s
    (λ magic option kind length.
    let same : OptionReply-of g.option g.kind g.length
    ≡ OptionReply-of h.option h.kind h.length = rw (option, kind, length) refl in same)
    (lit< tt, (g_fits.option, (g_fits.kind, (g_fits.length, tt))))
    (lit< tt, (h_fits.option, (h_fits.kind, (h_fits.length, tt))))
    (simp append_assoc at same)

-- the numbers of a request's header
abbrev request_head_fields : List (ℕ × (RequestHead → ℕ))
request_head_fields =
    (4, (λ h. request_magic)) ∷ (2, (λ h. h.flags.0)) ∷ (2, (λ h. h.kind))
    ∷ (8, (λ h. h.cookie)) ∷ (8, (λ h. h.offset)) ∷ (4, (λ h. h.length)) ∷ []

-- a request's header with these numbers
abbrev RequestHead-of : (flags kind cookie offset length : ℕ) → RequestHead
RequestHead-of flags kind cookie offset length = record { flags = record { 0 = flags }; kind = kind; cookie = cookie; offset = offset; length = length }

-- bytes begin with a request's header in one way at most
pub request_head_bytes-unique : (g h : RequestHead) (r s : List ℕ) → FitsRequestHead g → FitsRequestHead h
    → request_head_bytes g ++ r ≡ request_head_bytes h ++ s → (g ≡ h) × (r ≡ s)
unfolding request_head_bytes
request_head_bytes-unique g h r s g_fits h_fits same =
    fields-unique request_head_fields g h r s
    (λ magic flags kind cookie offset length. let same : RequestHead-of g.flags.0 g.kind g.cookie g.offset g.length
    ≡ RequestHead-of h.flags.0 h.kind h.cookie h.offset h.length = rw (flags, kind, cookie, offset, length) refl in same)
    (lit< tt, (g_fits.flags, (g_fits.kind, (g_fits.cookie, (g_fits.offset, (g_fits.length, tt))))))
    (lit< tt, (h_fits.flags, (h_fits.kind, (h_fits.cookie, (h_fits.offset, (h_fits.length, tt))))))
    (simp append_assoc at same)

-- the numbers of a simple reply's header
abbrev simple_reply_fields : List (ℕ × (SimpleReply → ℕ))
simple_reply_fields = (4, (λ h. simple_reply_magic)) ∷ (4, (λ h. h.error)) ∷ (8, (λ h. h.cookie)) ∷ []

-- a simple reply's header with these numbers
abbrev SimpleReply-of : (error cookie : ℕ) → SimpleReply
SimpleReply-of error cookie = record { error = error; cookie = cookie }

-- bytes begin with a simple reply's header in one way at most
pub simple_reply_bytes-unique : (g h : SimpleReply) (r s : List ℕ) → FitsSimpleReply g → FitsSimpleReply h
    → simple_reply_bytes g ++ r ≡ simple_reply_bytes h ++ s → (g ≡ h) × (r ≡ s)
unfolding simple_reply_bytes
simple_reply_bytes-unique g h r s g_fits h_fits same =
    fields-unique simple_reply_fields g h r s
    (λ magic error cookie.
    let same : SimpleReply-of g.error g.cookie
    ≡ SimpleReply-of h.error h.cookie = rw (error, cookie) refl in same)
    (lit< tt, (g_fits.error, (g_fits.cookie, tt)))
    (lit< tt, (h_fits.error, (h_fits.cookie, tt)))
    (simp append_assoc at same)
