-- A stream of requests: whole ones, one after the other, and then the beginning of one or a header
-- that ends the stream.
use Rattle.std.specs.Prelude.{◌≡◌, ◌≢◌, ℕ, ◌+◌, ◌^◌, ◌<◌, ◌≤◌, ◌⊎◌, List, ◌++◌, length, take}
use Rattle.std.specs.Prelude.{Option, Some, None}
use Rattle.std.specs.List.{flat_map, AllByRecursion}
use Rattle.nm_wire.specs.declared.request_head.RequestHead.{RequestHead}
use Rattle.nm_wire.specs.Layout.{FitsRequestHead, request_head_bytes}
use Rattle.nm_wire.specs.Number.{be, request_magic}
use Rattle.nm_wire.specs.Sizes.{max_payload}
use Rattle.nm_requests.specs.declared.fault.Fault.{Fault}
use Rattle.nm_requests.specs.declared.fault.Fault.TheVariants.{Magic, TooLong, Memory}
use Rattle.nm_requests.specs.Message.{Message, IsMessage, message_bytes, payload_length}

-- how many requests a session may send
abbrev pub most_requests : ℕ
most_requests = 2 ^ 63

-- after `before` requests comes one more, and these bytes follow it
pub record StartsWith (before : ℕ) (bytes : List ℕ) (message : Message) (after : List ℕ)
    : Type 0 where
  pub whole : bytes ≡ message_bytes message ++ after
  pub valid : IsMessage message
  pub few : before < most_requests

-- after `before` requests come these, one after the other, and then the rest
pub record Begins (before : ℕ) (bytes : List ℕ) (messages : List Message) (rest : List ℕ)
    : Type 0 where
  pub whole : bytes ≡ flat_map message_bytes messages ++ rest
  pub valid : AllByRecursion IsMessage messages
  pub few : before + length messages ≤ most_requests

-- a whole header with a wrong magic number; after 2^63 requests any 28 bytes count as one
abbrev pub IsWrongMagic : ℕ → List ℕ → Type 0
IsWrongMagic before bytes =
    (28 ≤ length bytes) × ((take 4 bytes ≢ be 4 request_magic) ⊎ (before ≡ most_requests))

-- the whole header of a WRITE that is too long
pub record IsTooLong (before : ℕ) (bytes : List ℕ) : Type 0 where
  pub head : RequestHead
  pub after : List ℕ
  pub whole : bytes ≡ request_head_bytes head ++ after
  pub fits : FitsRequestHead head
  pub long : max_payload < payload_length head
  pub few : before < most_requests

-- no whole request, nor a whole header that ends the stream
pub record IsUnfinished (before : ℕ) (bytes : List ℕ) : Type 0 where
  pub no_request : (message : Message) (after : List ℕ) → StartsWith before bytes message after → ⊥
  pub no_wrong_magic : IsWrongMagic before bytes → ⊥
  pub none_too_long : IsTooLong before bytes → ⊥

-- how the stream goes on after `before` requests: by no whole request, or by a header at which a
-- reader stops
abbrev pub EndsAs : ℕ → List ℕ → Option Fault → Type 0
EndsAs before rest None = IsUnfinished before rest
EndsAs before rest (Some Magic) = IsWrongMagic before rest
EndsAs before rest (Some TooLong) = IsTooLong before rest
EndsAs before rest (Some Memory) = ⊥

-- after `before` requests the bytes are these, and then the end
pub record IsStreamAfter (before : ℕ) (bytes : List ℕ) (messages : List Message)
    (end : Option Fault) : Type 0 where
  pub rest : List ℕ
  pub begins : Begins before bytes messages rest
  pub ends : EndsAs (before + length messages) rest end

-- the text is these requests, and then the end
abbrev pub IsStream : List ℕ → List Message → Option Fault → Type 0
IsStream text messages end = IsStreamAfter 0 text messages end
