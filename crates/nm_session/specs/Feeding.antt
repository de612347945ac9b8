-- What a piece of the client's bytes does to a session.
use Rattle.std.specs.Prelude.{◌≡◌, ℕ, List, [], ◌++◌, drop, if◌then◌else◌}
use Rattle.nm_haggle.specs.Haggling.{Haggling, Response, HagglesFrom}
use Rattle.nm_haggle.specs.declared.next.Next.{Next}
use Rattle.nm_haggle.specs.declared.next.Next.TheVariants as next
use Rattle.nm_session.specs.declared.ended_by.EndedBy.TheVariants as by
use Rattle.nm_session.specs.declared.stage.Stage.{Stage}
use Rattle.nm_session.specs.declared.stage.Stage.TheVariants as stage
use Rattle.nm_session.specs.Session.{Session}

-- where a response of the haggling leads
abbrev pub stage_then : Next → Stage
stage_then next.More = stage.Haggling
stage_then next.Transmit = stage.Serving
stage_then (next.Close aborted) = stage.Ended (if aborted then by.Abort else by.Protocol)

-- the bytes of a piece that are not the haggling's but the first of the requests
abbrev pub request_bytes : Next → ℕ → List ℕ → List ℕ
request_bytes next.More used piece = []
request_bytes next.Transmit used piece = drop used piece
request_bytes (next.Close aborted) used piece = []

-- the haggling responds to the piece
pub record Responds (old : Session) (piece : List ℕ) (new : Session) : Type 0 where
  pub response : Response
  pub haggling : Haggling
  pub from : HagglesFrom old.haggling piece response haggling
  pub new_is : new ≡ record old {
    stage = stage_then response.next;
    haggling = haggling;
    rest = old.rest ++ request_bytes response.next response.used piece;
    out = old.out ++ response.out;
  }

-- by the stage: the haggling responds, or the piece follows what is unread
abbrev pub FeedsAt : Stage → Session → List ℕ → Session → Type 0
FeedsAt stage.Haggling old piece new = Responds old piece new
FeedsAt stage.Serving old piece new = new ≡ record old { rest = old.rest ++ piece }
FeedsAt (stage.Ended by) old piece new = ⊥

-- the session takes the piece
abbrev pub Feeds : Session → List ℕ → Session → Type 0
Feeds old piece new = FeedsAt old.stage old piece new

-- the session takes no more bytes
abbrev pub IsEnded : Stage → Type 0
IsEnded stage.Haggling = ⊥
IsEnded stage.Serving = ⊥
IsEnded (stage.Ended by) = Unit {0}
