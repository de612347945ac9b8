-- The bytes that go out to a client, by what happens in its session.
use Rattle.std.specs.Prelude.{◌≡◌, ℕ, ◌+◌, List, [], ◌∷◌, ◌++◌, drop, ◌==◌, if◌then◌else◌, Ok}
use Rattle.nm_haggle.specs.Haggling.{Haggles, End, greeting_bytes}
use Rattle.nm_haggle.specs.Haggling as haggle
use Rattle.nm_requests.specs.declared.request.Request.{Request}
use Rattle.nm_requests.specs.declared.task.Task.TheVariants.{Disconnect}
use Rattle.nm_requests.specs.Message.{Message}
use Rattle.nm_requests.specs.Stream.{Begins}
use Rattle.nm_wire.specs.declared.export.Export.{Export}
use Rattle.nm_session.specs.declared.limit.Limit.{Limit}
use Rattle.nm_session.specs.Asking.{IsJudged, own_reply}
use Rattle.nm_session.specs.Event.{Event, Fed, Asked, Stopped, Answered, fed_bytes, messages}
use Rattle.nm_session.specs.Outcome.{says, reply_frame}

-- the cookie of the request with this index, among those that were read, the last one first
abbrev pub cookie_of : ℕ → List Request → ℕ
cookie_of index [] = 0
cookie_of index (request ∷ before) =
    if request.index == index then request.cookie else cookie_of index before

-- the replies, in the order of the events, after these requests were read: to a request that needs
-- no target as it is read, to another as it is answered
abbrev pub replies : List Request → List Event → List ℕ
replies before [] = []
replies before (Asked request judged ∷ events) =
    own_reply request judged ++ replies (request ∷ before) events
replies before (Answered index outcome ∷ events) =
    reply_frame (cookie_of index before) (says outcome) ++ replies before events
replies before (_ ∷ events) = replies before events

-- the requests are numbered from this number on, and each is judged so
abbrev pub AreJudged : Export → Limit → ℕ → List Event → Type 0
AreJudged export limit count [] = Unit {0}
AreJudged export limit count (Asked request judged ∷ events) =
    (request.index ≡ count) × IsJudged export limit request judged
    × AreJudged export limit (count + 1) events
AreJudged export limit count (_ ∷ events) = AreJudged export limit count events

-- nothing is fed and nothing is read
abbrev pub IsNothingRead : List Event → Type 0
IsNothingRead [] = Unit {0}
IsNothingRead (Fed piece ∷ events) = ⊥
IsNothingRead (Asked request judged ∷ events) = ⊥
IsNothingRead (Stopped fault ∷ events) = ⊥
IsNothingRead (_ ∷ events) = IsNothingRead events

-- nothing is fed or read after a DISC
abbrev pub LastIsDisconnect : List Event → Type 0
LastIsDisconnect [] = Unit {0}
LastIsDisconnect (Asked request (Ok Disconnect) ∷ events) = IsNothingRead events
LastIsDisconnect (_ ∷ events) = LastIsDisconnect events

-- the requests are the first in the bytes after the haggling, one after the other; where it did not
-- begin transmission there are none
abbrev pub AreRead : End → List ℕ → List Message → Type 0
AreRead haggle.More text requests = requests ≡ []
AreRead (haggle.Transmit used) text requests =
    (rest : List ℕ) × Begins 0 (drop used text) requests rest
AreRead (haggle.Close used aborted) text requests = requests ≡ []

-- these bytes go out: the greeting, what all the fed bytes are answered with in the haggling, and
-- the replies to the requests, which are the first of those that were fed
pub record GoesOut (export : Export) (limit : Limit) (events : List Event) (out : List ℕ)
    : Type 0 where
  pub haggled : List ℕ
  pub end : End
  pub haggles : Haggles export (fed_bytes events) haggled end
  pub out_is : out ≡ greeting_bytes ++ (haggled ++ replies [] events)
  pub are_read : AreRead end (fed_bytes events) (messages events)
  pub are_judged : AreJudged export limit 0 events
  pub last : LastIsDisconnect events
