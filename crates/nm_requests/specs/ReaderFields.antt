-- What a reader's fields say of the stream.
use Rattle.std.specs.Prelude.{ℕ, ◌≤◌, List, [], Option, Some, None, IfSome}
use Rattle.bytes.specs.Filled.{Filled}
use Rattle.nm_requests.specs.declared.request_reader.RequestReader.TheInside.{Inside}
use Rattle.nm_requests.specs.Reader.{Unread}
use Rattle.nm_requests.specs.Stream.{EndsAs, most_requests}

-- the bytes of the buffer, if there is one
abbrev pub unread_bytes : Option Filled → List ℕ
unread_bytes None = []
unread_bytes (Some buffer) = buffer.items

-- its room
abbrev pub room_of : Option Filled → ℕ
room_of None = 0
room_of (Some buffer) = buffer.spare

abbrev pub unread_of : Inside → Unread
unread_of reader = record {
  rest = unread_bytes reader.buffer;
  count = reader.count;
  fault = reader.fault;
  room = room_of reader.buffer;
}

-- no more requests were read than may be, and a fault that is kept is in the unread bytes
pub record IsSound (reader : Inside) : Type 0 where
  pub few : reader.count ≤ most_requests
  pub stopped : IfSome reader.fault (λ fault.
      EndsAs reader.count (unread_bytes reader.buffer) (Some fault))
