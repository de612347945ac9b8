-- What a session's bytes do between its core, its reader and its writer.
use Rattle.std.specs.Prelude.{◌≡◌, ℕ, ◌<◌, Bool, true, false, List, [], length, take, Option}
use Rattle.std.specs.Io.KnownBytes.{Appends, Consumes, IsAtEnd}
use Rattle.nm_session.specs.declared.serve_fault.ServeFault.{ServeFault}
use Rattle.nm_session.specs.declared.serve_fault.ServeFault.TheVariants as fault
use Rattle.nm_session.specs.Session.{Session}
use Rattle.nm_session.specs.Feeding.{Feeds}
use Rattle.nm_session.specs.Event.{Takes}

-- a piece was read and fed; or none, and the input has ended
abbrev pub FeedsPiece : Bool → (old new : Session) → (input unread : Option (List ℕ)) → Type 0
FeedsPiece true old new input unread =
    (piece : List ℕ) × Consumes input unread piece × Feeds old piece new
FeedsPiece false old new input unread =
    Consumes input unread [] × IsAtEnd unread × (new ≡ old)

-- a piece was read and there was no memory to feed it; or none was read
abbrev pub FeedsNone : ServeFault → (old new : Session) → (input unread : Option (List ℕ)) → Type 0
FeedsNone fault.Memory old new input unread =
    (piece : List ℕ) × Consumes input unread piece × (new ≡ old)
FeedsNone fault.Read old new input unread = Consumes input unread [] × (new ≡ old)
FeedsNone (fault.Write sent) old new input unread = ⊥

-- all that was to go out was written
pub record SendsOut (old new : Session) (output written : Option (List ℕ)) : Type 0 where
  pub takes : Takes old old.out new
  pub appends : Appends output written old.out

-- only the first of the bytes that were to go out were written
abbrev pub SendsPart : ServeFault → (old new : Session) → (output written : Option (List ℕ))
    → Type 0
SendsPart fault.Memory old new output written = ⊥
SendsPart fault.Read old new output written = ⊥
SendsPart (fault.Write sent) old new output written =
    Takes old old.out new × Appends output written (take sent old.out) × (sent < length old.out)
