-- A request on the wire ("Request message"): its header and, after that of a WRITE, its payload.
use Rattle.std.specs.Prelude.{◌≡◌, ℕ, ◌≤◌, List, ◌++◌, length, ◌==◌, if◌then◌else◌}
use Rattle.nm_wire.specs.declared.command.Command.TheVariants.{Read, Write}
use Rattle.nm_wire.specs.declared.request_head.RequestHead.{RequestHead}
use Rattle.nm_wire.specs.Command.{command_number}
use Rattle.nm_wire.specs.Layout.{FitsRequestHead, request_head_bytes}
use Rattle.nm_wire.specs.Sizes.{max_payload}

-- a request as the stream has it
pub record Message : Type 0 where
  pub head : RequestHead
  pub payload : List ℕ

-- how many bytes follow the header: as many as a WRITE's length says, none after other commands
abbrev pub payload_length : RequestHead → ℕ
payload_length head = if head.kind == command_number Write then head.length else 0

-- how many bytes the header asks to read: as many as a READ's length says, none by other commands
abbrev pub read_length : RequestHead → ℕ
read_length head = if head.kind == command_number Read then head.length else 0

-- the bytes of a request: its header, then its payload
abbrev pub message_bytes : Message → List ℕ
message_bytes message = request_head_bytes message.head ++ message.payload

-- each number fits its field, and the payload is whole and not too long
pub record IsMessage (message : Message) : Type 0 where
  pub fits : FitsRequestHead message.head
  pub whole : length message.payload ≡ payload_length message.head
  pub short : payload_length message.head ≤ max_payload
