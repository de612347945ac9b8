-- What the fields of received bytes say of the stream.
use Rattle.std.specs.Prelude.{ℕ, List, [], ◌++◌, Option, Some, None, IfSome}
use Rattle.bytes.specs.Filled.{Filled}
use Rattle.nm_wire.specs.declared.request_head.RequestHead.{RequestHead}
use Rattle.nm_wire.specs.Layout.{FitsRequestHead, request_head_bytes}
use Rattle.nm_requests.specs.declared.received.Received.TheInside.{Inside}

-- the bytes of a header that was taken off, if one was
abbrev pub head_bytes : Option RequestHead → List ℕ
head_bytes None = []
head_bytes (Some head) = request_head_bytes head

-- the header's bytes and those after it, and the room behind them
abbrev pub filled_of : Inside → Filled
filled_of received = record {
  items = head_bytes received.head ++ received.bytes.items;
  spare = received.bytes.spare;
}

-- each number of a header that was taken off fits its field
abbrev pub IsSound : Inside → Type 0
IsSound received = IfSome received.head FitsRequestHead
