-- The request that the unread bytes begin with.
use Rattle.std.specs.Prelude.{◌≡◌, ℕ, ◌+◌, ◌<◌, ◌≤◌, List, ◌++◌, length, drop}
use Rattle.nm_wire.specs.declared.request_head.RequestHead.{RequestHead}
use Rattle.nm_wire.specs.Layout.{FitsRequestHead, request_head_bytes}
use Rattle.nm_wire.specs.Sizes.{max_payload}
use Rattle.nm_requests.specs.declared.request.Request.{Request}
use Rattle.nm_requests.specs.Message.{Message, payload_length, read_length}
use Rattle.nm_requests.specs.Stream.{StartsWith, most_requests}

-- a request's message, without its number and where it lies in memory
abbrev pub message_of : Request → Message
message_of request = record {
  head = record {
    flags = request.flags;
    kind = request.kind;
    cookie = request.cookie;
    offset = request.offset;
    length = request.length;
  };
  payload = request.payload;
}

-- the bytes begin with this header, and the whole request is there
pub record HasWhole (before : ℕ) (bytes : List ℕ) (head : RequestHead) : Type 0 where
  pub whole : bytes ≡ request_head_bytes head ++ drop 28 bytes
  pub fits : FitsRequestHead head
  pub short : payload_length head ≤ max_payload
  pub payload : 28 + payload_length head ≤ length bytes
  pub few : before < most_requests

-- the bytes begin with the header of a READ of so many bytes
pub record BeginsRead (bytes : List ℕ) (length : ℕ) : Type 0 where
  pub head : RequestHead
  pub whole : bytes ≡ request_head_bytes head ++ drop 28 bytes
  pub fits : FitsRequestHead head
  pub length_is : read_length head ≡ length

-- the first request is a WRITE with a payload, which has to be cut out
pub record HasPayload (before : ℕ) (bytes : List ℕ) : Type 0 where
  pub message : Message
  pub after : List ℕ
  pub starts : StartsWith before bytes message after
  pub payload : 0 < length message.payload
