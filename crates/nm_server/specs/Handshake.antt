-- What a handshake over a socket tells.
use Rattle.std.specs.Prelude.{Bool, true, false, Some, None}
use Rattle.nm_session.specs.declared.served.Served.{Served}
use Rattle.nm_session.specs.Session.{Session}
use Rattle.nm_workers.specs.Serving.{Io, io, Negotiates}

-- the input and output of a socket: of its bytes nothing is known
abbrev pub untold : Io (Unit {0})
untold = io None None tt

-- true where requests follow, false where the session has ended
abbrev pub HasNegotiated : Bool → (from to : Session) → Type 0
HasNegotiated true from to = Negotiates None from to untold untold
HasNegotiated false from to = (served : Served) × Negotiates (Some served) from to untold untold
