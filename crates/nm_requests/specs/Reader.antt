-- A reader of requests: what it keeps of the stream, and what each call does.
use Rattle.std.specs.Prelude.{◌≡◌, ℕ, ◌+◌, List, [], ◌∷◌, ◌++◌, Option, Some, None}
use Rattle.nm_requests.specs.declared.fault.Fault.{Fault}
use Rattle.nm_requests.specs.Message.{Message}
use Rattle.nm_requests.specs.Stream.{StartsWith, EndsAs}

-- the bytes that are not handed out yet, how many requests were, the fault at which the reader
-- stopped, and how many more bytes it takes with no allocation
pub record Unread : Type 0 where
  pub rest : List ℕ
  pub count : ℕ
  pub fault : Option Fault
  pub room : ℕ

-- at most the room changed
pub record IsUnchanged (old new : Unread) : Type 0 where
  pub rest : new.rest ≡ old.rest
  pub count : new.count ≡ old.count
  pub fault : new.fault ≡ old.fault

-- the piece follows what was unread
pub record Feeds (old : Unread) (piece : List ℕ) (new : Unread) : Type 0 where
  pub was_open : old.fault ≡ None
  pub rest : new.rest ≡ old.rest ++ piece
  pub count : new.count ≡ old.count
  pub fault : new.fault ≡ None

-- the first unread request is handed out, and what follows it stays
pub record HandsOut (old : Unread) (message : Message) (new : Unread) : Type 0 where
  pub was_open : old.fault ≡ None
  pub first : StartsWith old.count old.rest message new.rest
  pub count : new.count ≡ old.count + 1
  pub fault : new.fault ≡ None

-- no complete request is buffered; nothing changes
pub record Starves (old new : Unread) : Type 0 where
  pub was_open : old.fault ≡ None
  pub unfinished : EndsAs old.count old.rest None
  pub unchanged : IsUnchanged old new

-- the unread bytes begin with a header that ends the stream, and the reader keeps the fault
pub record Stops (old : Unread) (found : Fault) (new : Unread) : Type 0 where
  pub ends : EndsAs old.count old.rest (Some found)
  pub rest : new.rest ≡ old.rest
  pub count : new.count ≡ old.count
  pub fault : new.fault ≡ Some found

-- out of memory: nothing changes
pub record Refuses (old new : Unread) : Type 0 where
  pub was_open : old.fault ≡ None
  pub unchanged : IsUnchanged old new

-- a call of a reader, with its answer; `Refused` is out of memory, and `Reserved` any call that at
-- most makes room
pub data Call : Type 0 where
  Fed : (piece : List ℕ) → Call
  HandedOut : (message : Message) → Call
  Starved : Call
  Stopped : (fault : Fault) → Call
  Refused : Call
  Reserved : Call

-- the call leads from one state to the other
abbrev pub Step : Unread → Call → Unread → Type 0
Step old (Fed piece) new = Feeds old piece new
Step old (HandedOut message) new = HandsOut old message new
Step old Starved new = Starves old new
Step old (Stopped fault) new = Stops old fault new
Step old Refused new = Refuses old new
Step old Reserved new = IsUnchanged old new

-- the calls lead from one state to the other
abbrev pub Runs : Unread → List Call → Unread → Type 0
Runs old [] new = IsUnchanged old new
Runs old (call ∷ calls) new = (mid : Unread) × Step old call mid × Runs mid calls new

-- the bytes that the calls fed
abbrev pub bytes_fed : List Call → List ℕ
bytes_fed [] = []
bytes_fed (Fed piece ∷ calls) = piece ++ bytes_fed calls
bytes_fed (_ ∷ calls) = bytes_fed calls

-- the requests that the calls handed out
abbrev pub requests_out : List Call → List Message
requests_out [] = []
requests_out (HandedOut message ∷ calls) = message ∷ requests_out calls
requests_out (_ ∷ calls) = requests_out calls

-- a new reader
pub record IsNew (reader : Unread) : Type 0 where
  pub rest : reader.rest ≡ []
  pub count : reader.count ≡ 0
  pub fault : reader.fault ≡ None
