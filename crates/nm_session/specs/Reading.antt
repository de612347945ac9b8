-- What the core says comes next, and what it read to find out.
use Rattle.std.specs.Prelude.{◌≡◌, ℕ, zero, suc, List, ◌⊎◌, length, Some, None, Result, Ok}
use Rattle.nm_requests.specs.declared.fault.Fault.{Fault}
use Rattle.nm_requests.specs.declared.request.Request.{Request}
use Rattle.nm_requests.specs.declared.task.Task.{Task}
use Rattle.nm_requests.specs.declared.task.Task.TheVariants as task
use Rattle.nm_requests.specs.Stream.{EndsAs}
use Rattle.nm_session.specs.declared.next.Next.{Next}
use Rattle.nm_session.specs.declared.next.Next.TheVariants as next
use Rattle.nm_session.specs.declared.stage.Stage.TheVariants as stage
use Rattle.nm_session.specs.Asking.{Asks, Stops, next_after}
use Rattle.nm_session.specs.Feeding.{IsEnded}
use Rattle.nm_session.specs.Session.{Session, IsReading, IsFull}

-- a WRITE's payload fills the bytes that its task writes
abbrev pub Fills : Task → List ℕ → Type 0
Fills (task.Write offset count fua) payload = length payload ≡ count
Fills _ payload = Unit {0}

-- a request is read, and its task is handed out with its payload
pub record Issues (old : Session) (index : ℕ) (task : Task) (payload : List ℕ) (new : Session)
    : Type 0 where
  pub request : Request
  pub asks : Asks old request (Ok task) new
  pub is_next : next_after request (Ok task) ≡ Some (next.Issue index task payload)
  pub fills : Fills task payload

-- no whole request is there: the client and the server still haggle, or the unread bytes are no
-- request and no fault
abbrev pub IsStarved : Session → Type 0
IsStarved core = (core.stage ≡ stage.Haggling) ⊎ (IsReading core × EndsAs core.count core.rest None)

-- no whole request is there; nothing changes
pub record Starves (old new : Session) : Type 0 where
  pub unfinished : IsStarved old
  pub unchanged : new ≡ old

-- as many requests are outstanding as may be; nothing changes
pub record IsHeldBack (old new : Session) : Type 0 where
  pub full : IsFull old
  pub unchanged : new ≡ old

-- the session was over
pub record StaysEnded (old new : Session) : Type 0 where
  pub ended : IsEnded old.stage
  pub unchanged : new ≡ old

-- a DISC is read
pub record Disconnects (old new : Session) : Type 0 where
  pub request : Request
  pub asks : Asks old request (Ok task.Disconnect) new

-- a header that ends the stream is found
pub record Breaks (old new : Session) : Type 0 where
  pub fault : Fault
  pub stops : Stops old fault new

-- what this answer says, with at most one request read
abbrev pub Tells : Session → Next → Session → Type 0
Tells old (next.Issue index task payload) new = Issues old index task payload new
Tells old next.Starved new = Starves old new
Tells old next.Full new = IsHeldBack old new
Tells old next.Ended new = StaysEnded old new ⊎ (Disconnects old new ⊎ Breaks old new)

-- a request is read that needs no target
pub record RepliesItself (old new : Session) : Type 0 where
  pub request : Request
  pub judged : Result Task ℕ
  pub asks : Asks old request judged new
  pub no_target : next_after request judged ≡ None

-- so many requests are read, none of which needs a target
abbrev pub RepliesTimes : ℕ → Session → Session → Type 0
RepliesTimes zero old new = new ≡ old
RepliesTimes (suc times) old new =
    (mid : Session) × RepliesTimes times old mid × RepliesItself mid new

-- requests that need no target are read and replied to, and nothing else happens
pub record ReadsOn (old new : Session) : Type 0 where
  pub times : ℕ
  pub each : RepliesTimes times old new

-- such requests are read, and then this comes next
pub record Reads (old : Session) (next : Next) (new : Session) : Type 0 where
  pub mid : Session
  pub reads_on : ReadsOn old mid
  pub tells : Tells mid next new
