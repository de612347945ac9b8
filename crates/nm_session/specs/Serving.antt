-- How a session came to its end, as it is told.
use Rattle.std.specs.Prelude.{◌≡◌, ℕ, List, Option}
use Rattle.std.specs.Io.KnownBytes.{IsAtEnd}
use Rattle.nm_session.specs.declared.end.End.{End}
use Rattle.nm_session.specs.declared.end.End.TheVariants as end
use Rattle.nm_session.specs.declared.ended_by.EndedBy.{EndedBy}
use Rattle.nm_session.specs.declared.ended_by.EndedBy.TheVariants as by
use Rattle.nm_session.specs.declared.stage.Stage.{Stage}
use Rattle.nm_session.specs.declared.stage.Stage.TheVariants as stage
use Rattle.nm_session.specs.Session.{Session}
use Rattle.nm_session.specs.Reading.{IsStarved}

-- what is told of what ended a core
abbrev pub end_of : EndedBy → End
end_of by.Disconnect = end.Disc
end_of by.Abort = end.Aborted
end_of by.Protocol = end.Protocol

-- a core that came to an end, as it is told
abbrev pub CoreEnds : End → Stage → Type 0
CoreEnds end.EndOfInput at = ⊥
CoreEnds end.Disc at = at ≡ stage.Ended by.Disconnect
CoreEnds end.Aborted at = at ≡ stage.Ended by.Abort
CoreEnds end.Protocol at = at ≡ stage.Ended by.Protocol

-- the input ended, and no whole request is left; or the core came to this end
abbrev pub IsEnd : End → Session → (unread : Option (List ℕ)) → Type 0
IsEnd end.EndOfInput core unread = IsStarved core × IsAtEnd unread
IsEnd end.Disc core unread = CoreEnds end.Disc core.stage
IsEnd end.Aborted core unread = CoreEnds end.Aborted core.stage
IsEnd end.Protocol core unread = CoreEnds end.Protocol core.stage
