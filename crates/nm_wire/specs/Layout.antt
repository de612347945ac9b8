-- The headers of the NBD protocol as bytes: each is a sequence of big-endian numbers, without gaps.
use Rattle.std.specs.Prelude.{◌<◌, ◌^◌, List, ℕ, ◌++◌}
use Rattle.nm_wire.specs.Number.{be, option_magic, option_reply_magic}
use Rattle.nm_wire.specs.Number.{request_magic, simple_reply_magic}
use Rattle.nm_wire.specs.declared.option_head.OptionHead.{OptionHead}
use Rattle.nm_wire.specs.declared.option_reply.OptionReply.{OptionReply}
use Rattle.nm_wire.specs.declared.request_head.RequestHead.{RequestHead}
use Rattle.nm_wire.specs.declared.simple_reply.SimpleReply.{SimpleReply}

-- an option's header, 16 bytes: magic, option, length of its data ("Fixed newstyle negotiation")
unfoldable pub option_head_bytes : OptionHead → List ℕ
option_head_bytes head = be 8 option_magic ++ be 4 head.option ++ be 4 head.length

-- the header of a reply to an option, 20 bytes: magic, option as asked, reply type, length of its
-- data ("Fixed newstyle negotiation")
unfoldable pub option_reply_bytes : OptionReply → List ℕ
option_reply_bytes reply =
    be 8 option_reply_magic ++ be 4 reply.option ++ be 4 reply.kind ++ be 4 reply.length

-- a request's header, 28 bytes: magic, flags, type, cookie, offset, length ("Request message")
unfoldable pub request_head_bytes : RequestHead → List ℕ
request_head_bytes head =
    be 4 request_magic ++ be 2 head.flags.0 ++ be 2 head.kind
    ++ be 8 head.cookie ++ be 8 head.offset ++ be 4 head.length

-- a simple reply, 16 bytes: magic, error, cookie ("Simple reply message")
unfoldable pub simple_reply_bytes : SimpleReply → List ℕ
simple_reply_bytes reply = be 4 simple_reply_magic ++ be 4 reply.error ++ be 8 reply.cookie

-- each number of an option's header fits its field
pub record FitsOptionHead (head : OptionHead) : Type 0 where
  pub option : head.option < 2 ^ 32
  pub length : head.length < 2 ^ 32

-- each number of the header of a reply to an option fits its field
pub record FitsOptionReply (reply : OptionReply) : Type 0 where
  pub option : reply.option < 2 ^ 32
  pub kind : reply.kind < 2 ^ 32
  pub length : reply.length < 2 ^ 32

-- each number of a request's header fits its field
pub record FitsRequestHead (head : RequestHead) : Type 0 where
  pub flags : head.flags.0 < 2 ^ 16
  pub kind : head.kind < 2 ^ 16
  pub cookie : head.cookie < 2 ^ 64
  pub offset : head.offset < 2 ^ 64
  pub length : head.length < 2 ^ 32

-- each number of a simple reply fits its field
pub record FitsSimpleReply (reply : SimpleReply) : Type 0 where
  pub error : reply.error < 2 ^ 32
  pub cookie : reply.cookie < 2 ^ 64
